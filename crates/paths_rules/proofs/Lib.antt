pub mod Listed
pub mod Entries
pub mod Rule
pub mod Right
pub mod Bytes
pub mod Answers
pub mod Facts
