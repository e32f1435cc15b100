pub mod Sound
pub mod Place
pub mod Theorems
