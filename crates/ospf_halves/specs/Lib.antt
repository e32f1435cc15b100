pub mod Neighbours
pub mod Theorems
pub mod Inner
pub mod Facts
