mod Values
mod Moves
mod Crossing
mod Calls
mod Settling
mod Reading
