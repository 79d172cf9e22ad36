pub mod Filling
pub mod Exchanging
pub mod Steps
pub mod Runs
pub mod Pipelines
pub mod Writing
pub mod Listing
pub mod Reading
