pub mod Written
pub mod Inner
pub mod OldLimit
pub mod Theorems
pub mod Facts
