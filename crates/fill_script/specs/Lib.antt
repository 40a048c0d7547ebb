pub mod Line
pub mod Opening
pub mod Entries
pub mod Script
