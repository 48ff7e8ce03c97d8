pub mod Refinement
pub mod Room
pub mod Shaper
pub mod Standing
pub mod Waking
