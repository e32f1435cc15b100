pub mod Theorems
pub mod Inner
pub mod Back
