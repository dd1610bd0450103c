pub mod Listed
pub mod ListedReads
pub mod ListedSpots
pub mod Memories
pub mod SegmentSpots
