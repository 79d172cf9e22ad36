pub mod Fronts
pub mod OrderLaws
pub mod Parts
pub mod Lengths
pub mod Again
pub mod Heads
pub mod Laws
