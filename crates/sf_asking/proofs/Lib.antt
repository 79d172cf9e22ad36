pub mod Once
pub mod Bodies
