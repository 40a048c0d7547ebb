pub mod CellLaws
pub mod MapLaws
pub mod ReachLaws
pub mod RoundLaws
pub mod StepLaws
