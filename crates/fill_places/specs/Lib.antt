pub mod Bits
pub mod Entries
pub mod Hops
pub mod Index
pub mod Marks
pub mod Sides
pub mod Wanted
