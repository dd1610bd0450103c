pub mod Words
pub mod Turns
pub mod Joins
pub mod Fetches
pub mod Begins
pub mod Hearings
pub mod Requests
pub mod Closings
