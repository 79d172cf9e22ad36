pub mod OnEngine
pub mod Talks
