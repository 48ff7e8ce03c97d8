pub mod Placed
pub mod InOrder
pub mod Collected
