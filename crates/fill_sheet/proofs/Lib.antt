pub mod Cells
pub mod Decisions
pub mod Rising
pub mod Strict
pub mod Texts
