pub mod Listing
pub mod Inner
pub mod Theorems
pub mod Facts
