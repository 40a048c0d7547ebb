pub mod Done
pub mod Lends
pub mod Moves
