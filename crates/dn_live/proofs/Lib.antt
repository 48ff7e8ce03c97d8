pub mod Callers
pub mod Commands
pub mod FieldSteps
pub mod LineReturns
pub mod LineSteps
pub mod SessionSteps
pub mod Transcripts
pub mod Words
