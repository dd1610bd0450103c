pub mod Plans
pub mod Stored
