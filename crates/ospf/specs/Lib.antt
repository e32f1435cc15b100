pub mod Import
pub mod Inner
pub mod Theorems
