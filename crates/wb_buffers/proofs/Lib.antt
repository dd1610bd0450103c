pub mod Repeats
pub mod Asked
