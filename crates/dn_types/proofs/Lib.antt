pub mod CallCounts
pub mod Bounded
pub mod BoundedReplies
pub mod Bridge
pub mod Conserving
pub mod Dues
pub mod ExampleWords
mod ExamplesDeletes
mod ExamplesLinks
mod ExamplesWf2q
pub mod Fifo
pub mod Firsts
pub mod Giving
pub mod Histories
pub mod InForce
pub mod InTurn
pub mod Keys
pub mod Known
pub mod Once
pub mod Ordered
pub mod PacketCounts
pub mod Picks
pub mod Proper
pub mod Ranges
pub mod Settled
pub mod Settling
mod ShortListsFlows
mod ShortListsWf2q
pub mod Step
pub mod StepFacts
pub mod TransmissionTime
pub mod Words
