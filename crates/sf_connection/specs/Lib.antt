pub mod Streams
pub mod Ends
pub mod Hosts
pub mod Progress
pub mod Connections
pub mod Steps
pub mod Waits
