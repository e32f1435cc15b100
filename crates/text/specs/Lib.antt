pub mod Fields
pub mod Hex
pub mod Lines
pub mod Numbers
pub mod Inner
pub mod Page
pub mod Room
