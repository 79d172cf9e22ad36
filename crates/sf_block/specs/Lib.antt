pub mod Contents
pub mod Blocks
