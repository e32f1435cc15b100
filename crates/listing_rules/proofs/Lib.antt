pub mod InTurn
pub mod Fields
pub mod Tables
pub mod Right
pub mod Facts
