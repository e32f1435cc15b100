pub mod SubTlvs
pub mod Cost
pub mod Theorems
pub mod Facts
