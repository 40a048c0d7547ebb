pub mod Cheapest
pub mod Costs
pub mod First
pub mod Memo
pub mod Parts
pub mod Rests
pub mod Rows
