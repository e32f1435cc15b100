pub mod Meets
pub mod Facts
