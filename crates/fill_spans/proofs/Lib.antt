pub mod PieceLaws
pub mod RowLaws
pub mod RunLaws
