pub mod Text
pub mod Segments
pub mod Standing
pub mod Writing
pub mod Refused
pub mod Firsts
pub mod Slots
