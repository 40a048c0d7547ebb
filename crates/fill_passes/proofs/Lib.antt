pub mod Known
mod Pieces
mod Aheads
