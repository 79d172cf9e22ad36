pub mod Causes
pub mod Limits
pub mod Asking
pub mod Sessions
pub mod Responses
pub mod SessionStates
pub mod Conversation
