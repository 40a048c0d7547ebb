pub mod Ending
pub mod Asked
pub mod Output
pub mod Run
