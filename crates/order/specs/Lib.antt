pub mod Calls
pub mod Inner
pub mod Theorems
pub mod Facts
