pub mod Machine
pub mod Prefix
pub mod Arcs
pub mod Given
pub mod Outcome
