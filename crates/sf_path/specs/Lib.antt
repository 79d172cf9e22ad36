pub mod Names
pub mod Normal
pub mod Order
pub mod Heads
