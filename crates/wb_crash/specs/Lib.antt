pub mod Chain
pub mod Images
pub mod Numbers
pub mod Safety
pub mod Crash
