pub mod Columns
pub mod Report
pub mod Sheet
