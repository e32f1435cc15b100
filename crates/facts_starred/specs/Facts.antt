pub mod Fact
pub mod Chain
pub mod Starred
pub mod Apart
