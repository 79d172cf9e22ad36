pub mod Promise
pub mod Deciding
pub mod Steady
pub mod Views
pub mod Works
pub mod HasLog
pub mod Turns
pub mod Wrong
