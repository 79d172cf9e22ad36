pub mod Calls
pub mod Laws
pub mod Seeing
pub mod Transcribing
pub mod Talking
pub mod OnLane
