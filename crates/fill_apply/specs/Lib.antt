pub mod Applied
pub mod Columns
pub mod Saved
