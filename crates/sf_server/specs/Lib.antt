pub mod Totals
pub mod Accepting
