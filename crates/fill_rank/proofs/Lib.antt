pub mod Best
pub mod LowerBounds
pub mod Parts
pub mod Pieces
pub mod Put
pub mod Scan
pub mod Walk
pub mod Cheap
