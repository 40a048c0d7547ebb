pub mod FirstOthers
mod Shown
mod Unique
