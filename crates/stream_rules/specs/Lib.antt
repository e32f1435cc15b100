pub mod Record
pub mod Halves
pub mod Stream
pub mod Reading
pub mod Inner
pub mod Theorems
pub mod Facts
