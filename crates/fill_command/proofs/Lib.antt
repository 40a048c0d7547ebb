pub mod Endings
pub mod KeyRows
pub mod Rows
pub mod Steps
