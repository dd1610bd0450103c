pub mod Closing
pub mod Content
pub mod Opening
pub mod Reading
pub mod Settling
pub mod Spots
pub mod Standing
pub mod Stepping
