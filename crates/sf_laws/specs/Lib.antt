pub mod LeftAlone
pub mod Own
pub mod NewHandles
pub mod Linked
pub mod SameCalls
pub mod Examples
