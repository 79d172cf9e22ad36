mod Fronts
mod Sessions
mod Passing
mod Turns
mod Rounds
pub mod Laws
