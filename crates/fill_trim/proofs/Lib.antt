pub mod Paths
pub mod Passes
pub mod Ranks
pub mod Left
pub mod Trims
pub mod Programs
