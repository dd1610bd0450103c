pub mod Formattings
pub mod Superblocks
