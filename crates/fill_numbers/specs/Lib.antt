pub mod Number
pub mod Columns
