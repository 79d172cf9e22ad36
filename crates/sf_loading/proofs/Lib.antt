pub mod Filling
pub mod Turning
