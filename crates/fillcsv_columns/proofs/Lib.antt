pub mod Others
pub mod Pads
pub mod Sources
