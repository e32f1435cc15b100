pub mod Facts
pub mod Neighbours
pub mod Halves
pub mod Named
pub mod Given
