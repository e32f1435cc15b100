pub mod Returned
pub mod Passed
pub mod Unchanged
