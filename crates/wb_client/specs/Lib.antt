pub mod Played
pub mod Done
pub mod Ended
pub mod Client
