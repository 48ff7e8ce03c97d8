pub mod Line
pub mod LinkState
