pub mod Facts
pub mod LinkCosts
pub mod Lent
pub mod Covered
