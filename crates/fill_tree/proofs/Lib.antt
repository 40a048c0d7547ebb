pub mod AtomLists
pub mod Examples
pub mod Explained
pub mod GuardLaws
pub mod Lookups
pub mod ProgramOrder
pub mod Ranked
pub mod TreeOrder
mod ValueExamples
pub mod ValueLaws
