pub mod Contents
pub mod Names
pub mod Pieces
