pub mod Checkings
pub mod DistinctBlocks
pub mod SlotTexts
pub mod Spellings
pub mod Standings
pub mod Writing
