-- The laws that determine the emulator, by subject.
pub mod Emulators
pub mod Laws
pub mod Links
pub mod Reports
