pub mod Registers
pub mod Division
pub mod Remainders
pub mod Lookups
pub mod Braids
pub mod Words
pub mod CallerLemmas
