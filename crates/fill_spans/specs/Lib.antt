pub mod Pieces
pub mod Read
pub mod View
