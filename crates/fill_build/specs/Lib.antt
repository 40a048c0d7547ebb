pub mod Build
pub mod Edges
pub mod Hits
pub mod Nodes
pub mod Pieces
