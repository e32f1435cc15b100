pub mod Chains
pub mod Starred
