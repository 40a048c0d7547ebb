pub mod LowerBounds
pub mod Memo
pub mod Sets
