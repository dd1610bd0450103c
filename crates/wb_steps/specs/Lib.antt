pub mod Coding
pub mod Faults
pub mod Views
pub mod Rule
pub mod Steps
pub mod Machines
