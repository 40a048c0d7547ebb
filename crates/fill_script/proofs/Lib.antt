pub mod Asked
pub mod Later
pub mod Lines
pub mod Proper
pub mod Runs
