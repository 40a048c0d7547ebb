pub mod Guards
pub mod Lookups
pub mod Pieces
pub mod Trees
pub mod Values
