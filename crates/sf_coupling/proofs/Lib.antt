pub mod Fronts
pub mod Keeping
pub mod Stepping
pub mod Laws
