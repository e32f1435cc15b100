pub mod Before
pub mod Pieces
