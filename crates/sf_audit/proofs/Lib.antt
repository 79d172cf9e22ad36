pub mod Exact
pub mod ToldCalls
pub mod Faults
pub mod Counted
