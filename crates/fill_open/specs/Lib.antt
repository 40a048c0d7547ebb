pub mod Made
pub mod MadeReady
pub mod Refusal
pub mod Lines
pub mod Steps
pub mod Apply
pub mod Keys
pub mod Command
