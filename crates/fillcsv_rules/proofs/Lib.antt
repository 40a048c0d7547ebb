pub mod Alike
mod Back
mod Forms
mod TableLines
