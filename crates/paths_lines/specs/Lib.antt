pub mod Lines
pub mod Inner
pub mod Theorems
pub mod Facts
