pub mod Agree
pub mod Decisions
pub mod Fields
pub mod Found
pub mod Names
pub mod Orders
