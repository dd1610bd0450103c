pub mod Keeping
pub mod Lookup
pub mod Places
pub mod Queue
pub mod Tables
