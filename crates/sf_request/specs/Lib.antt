pub mod Requests
pub mod Reading
