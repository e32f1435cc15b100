pub mod Coverage
pub mod Printed
pub mod Theorems
pub mod Inner
pub mod Facts
