pub mod Limits
pub mod Topology
pub mod Outcome
pub mod Inner
pub mod Theorems
