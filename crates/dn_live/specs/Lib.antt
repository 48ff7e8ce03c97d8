pub mod Asked
pub mod Causes
pub mod LinesTaken
pub mod Session
pub mod Transcripts
