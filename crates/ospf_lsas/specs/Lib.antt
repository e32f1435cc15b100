pub mod Lsa
pub mod Walk
pub mod Opened
pub mod Theorems
pub mod Facts
