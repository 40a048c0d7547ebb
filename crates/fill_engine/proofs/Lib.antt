pub mod Requests
pub mod Results
pub mod Runs
