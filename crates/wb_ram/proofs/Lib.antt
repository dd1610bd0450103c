pub mod Merges
pub mod Sectors
