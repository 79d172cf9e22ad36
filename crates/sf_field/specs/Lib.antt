pub mod Fields
pub mod Attributes
pub mod OpenFlags
pub mod Reading
pub mod Strings
