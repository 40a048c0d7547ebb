pub mod Asked
pub mod Conflicts
pub mod Options
pub mod Sound
pub mod Words
