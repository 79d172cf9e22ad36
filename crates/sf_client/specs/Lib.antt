pub mod Packets
pub mod Pending
pub mod Exchanges
pub mod Outcomes
pub mod Ahead
pub mod Calls
