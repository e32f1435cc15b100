pub mod Lists
pub mod Pairs
pub mod Links
pub mod Counting
pub mod Right
pub mod Printing
pub mod Facts
