pub mod Bounds
pub mod Next
pub mod Steps
pub mod Turns
pub mod First
