pub mod Sights
pub mod Plays
pub mod Belongs
pub mod Passes
pub mod Carried
