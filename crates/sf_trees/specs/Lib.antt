pub mod Operations
pub mod Lengths
pub mod Makings
