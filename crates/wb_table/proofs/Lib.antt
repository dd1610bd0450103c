pub mod Covering
pub mod Entries
pub mod Forgetting
pub mod Items
pub mod Noting
pub mod Sectors
pub mod Soundness
pub mod Placed
