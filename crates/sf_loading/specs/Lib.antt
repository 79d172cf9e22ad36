pub mod Items
pub mod Loading
pub mod Lines
pub mod Talking
