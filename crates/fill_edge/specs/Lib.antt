pub mod Outside
pub mod Reading
pub mod Memory
pub mod Real
