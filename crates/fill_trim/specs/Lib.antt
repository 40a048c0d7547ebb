pub mod Marks
pub mod Trim
