pub mod Schedule
pub mod Rank
pub mod Queue
pub mod Kept
pub mod Steps
pub mod Stored
