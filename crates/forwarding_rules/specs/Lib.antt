pub mod Schedule
pub mod Calls
pub mod Lent
pub mod System
pub mod Lists
pub mod Theorems
pub mod Inner
