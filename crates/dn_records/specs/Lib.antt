pub mod Devices
pub mod PlainLines
pub mod Reading
pub mod Records
pub mod Steps
pub mod WholeRecords
pub mod Wrappers
pub mod Writing
