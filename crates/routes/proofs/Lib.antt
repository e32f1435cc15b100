pub mod Right
pub mod Facts
