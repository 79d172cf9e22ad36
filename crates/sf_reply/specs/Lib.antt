pub mod Replies
pub mod Longname
pub mod Reading
