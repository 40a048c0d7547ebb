pub mod Keys
pub mod Ranks
pub mod Search
