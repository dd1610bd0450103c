pub mod Superblock
pub mod Found
pub mod Formatting
pub mod Recording
pub mod Clearing
