pub mod Bytes
pub mod Numbers
pub mod Scan
pub mod Stores
pub mod Texts
