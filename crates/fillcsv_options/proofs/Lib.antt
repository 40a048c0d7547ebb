mod Choice
pub mod Loud
mod OneKind
pub mod Parts
mod Proper
pub mod Rules
mod Sound
