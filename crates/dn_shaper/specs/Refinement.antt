-- How the parts hold what the definitions read of a trace, and what each function does to them. The promise rests on it, and
-- a user of the crate needs none of it.
pub mod Agreement
pub mod Arriving
pub mod Calls
pub mod Configuring
pub mod Discarding
pub mod Emptied
pub mod Homing
pub mod Making
pub mod NextStarts
pub mod Passing
pub mod QueueCounts
pub mod Reordering
pub mod Sending
pub mod Settings
pub mod Settling
pub mod Slots
pub mod Sound
pub mod Starting
pub mod Submitting
pub mod Views
