pub mod Lines
pub mod MemoryLines
pub mod StreamLines
