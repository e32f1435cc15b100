pub mod Output
pub mod Theorems
pub mod Facts
pub mod Inner
