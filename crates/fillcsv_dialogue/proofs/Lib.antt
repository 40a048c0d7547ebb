pub mod Cutting
pub mod Talking
pub mod Growing
pub mod Taking
