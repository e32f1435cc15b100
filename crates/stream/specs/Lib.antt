pub mod Reader
pub mod Inner
pub mod Listing
pub mod Theorems
