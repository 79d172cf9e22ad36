pub mod Sessions
pub mod Streams
pub mod Conversations
pub mod LaneSessions
pub mod Ready
