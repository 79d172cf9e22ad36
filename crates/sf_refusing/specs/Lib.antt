pub mod Rules
pub mod Journal
pub mod Counting
pub mod Refusing
pub mod Fronts
