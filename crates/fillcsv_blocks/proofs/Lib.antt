pub mod Accepting
pub mod Merging
pub mod Numbers
pub mod Opening
pub mod Standing
