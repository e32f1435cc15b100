pub mod Fields
pub mod Bytes
pub mod From
pub mod Right
pub mod Facts
