pub mod Keeping
pub mod Metas
pub mod Pieces
pub mod Slots
pub mod Texts
pub mod Written
