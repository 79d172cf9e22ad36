pub mod Ending
pub mod Entries
pub mod Hosting
pub mod Laws
pub mod Talking
pub mod Turning
