pub mod Added
pub mod Planning
pub mod Writing
