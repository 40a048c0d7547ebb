pub mod Fields
pub mod Few
pub mod Firsts
pub mod Runs
pub mod Texts
