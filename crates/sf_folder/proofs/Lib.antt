pub mod Listed
pub mod Pieces
