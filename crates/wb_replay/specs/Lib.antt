pub mod Replaying
pub mod Stopping
pub mod Putting
