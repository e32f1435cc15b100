pub mod Questions
pub mod Kinds
pub mod Requests
pub mod Inner
