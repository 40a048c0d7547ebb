pub mod Candidate
pub mod Least
pub mod Listed
pub mod Matches
pub mod Read
