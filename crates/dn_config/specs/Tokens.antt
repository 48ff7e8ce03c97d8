-- How numbers, addresses, words and lines are written in the texts of configurations, packet files and histories.
pub mod Numbers
pub mod Addresses
pub mod Words
pub mod Lines
pub mod Taking
pub mod Joined
pub mod Until
