pub mod Choices
pub mod Changes
pub mod Keeping
pub mod LawsOfFolds
pub mod Placement
pub mod Refusals
pub mod Renewal
pub mod Standing
