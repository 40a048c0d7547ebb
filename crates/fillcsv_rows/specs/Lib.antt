pub mod Learned
pub mod Filled
