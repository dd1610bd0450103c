pub mod Holding
pub mod Kept
pub mod Reading
pub mod Writing
