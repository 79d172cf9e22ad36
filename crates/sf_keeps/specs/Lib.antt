pub mod Steps
pub mod Shows
pub mod Keeps
pub mod Listed
