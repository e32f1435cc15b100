pub mod Slots
pub mod Among
pub mod Filled
pub mod Links
pub mod Back
pub mod Passed
