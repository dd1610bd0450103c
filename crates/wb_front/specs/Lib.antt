pub mod Words
pub mod Joined
pub mod Moving
pub mod Beginning
pub mod Requests
pub mod Closing
