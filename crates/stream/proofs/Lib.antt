pub mod AtTurn
pub mod Filled
pub mod Standing
pub mod Steps
pub mod Readers
