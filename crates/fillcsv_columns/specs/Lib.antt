pub mod Columns
pub mod Choice
pub mod Fields
