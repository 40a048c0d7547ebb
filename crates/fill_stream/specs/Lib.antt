pub mod Streams
pub mod Taps
pub mod Fronts
pub mod Records
pub mod Filters
