pub mod Askers
pub mod Logs
pub mod Asking
pub mod Laws
