mod Puts
mod Counts
mod Strays
mod Blocks
mod Segments
mod Chains
pub mod Turns
pub mod Leavings
pub mod Judged
mod Deciding
