pub mod Index
pub mod Keys
pub mod Orders
pub mod Reading
pub mod Rows
pub mod Tables
