pub mod Statuses
pub mod Commands
pub mod Carrying
pub mod Loading
pub mod Descriptors
pub mod Terminal
