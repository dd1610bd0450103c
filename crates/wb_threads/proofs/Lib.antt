pub mod Hearings
pub mod Stops
pub mod Parting
pub mod Clients
pub mod Ended
pub mod Begun
pub mod Left
pub mod Sessions
