pub mod Lookups
pub mod Rule
pub mod File
pub mod Form
