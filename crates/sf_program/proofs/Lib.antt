mod Carrying
mod Known
pub mod Lines
mod Talks
