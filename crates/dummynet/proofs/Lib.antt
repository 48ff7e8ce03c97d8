pub mod Forms
pub mod Readings
pub mod Refusals
