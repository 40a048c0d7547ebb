pub mod Lefts
pub mod Filterings
mod Marks
