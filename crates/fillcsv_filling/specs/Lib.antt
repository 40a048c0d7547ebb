pub mod Reading
pub mod Long
pub mod Taught
pub mod Rows
