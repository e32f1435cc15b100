pub mod Behind
pub mod Turns
pub mod Start
