pub mod Theorems
pub mod Facts
