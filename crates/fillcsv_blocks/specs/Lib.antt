pub mod Numbers
pub mod Merged
pub mod Blocks
pub mod Accepted
