pub mod Applies
pub mod MadeLines
pub mod MadeOpens
pub mod MadeRecords
pub mod Replays
