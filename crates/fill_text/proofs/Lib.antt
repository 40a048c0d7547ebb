pub mod ListReads
pub mod ListsLaws
pub mod Scalars
