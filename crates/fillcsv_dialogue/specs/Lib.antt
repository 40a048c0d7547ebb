pub mod Lines
pub mod Cuts
pub mod Replies
pub mod Dialogue
pub mod Turns
pub mod Told
