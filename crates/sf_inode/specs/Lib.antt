pub mod Nodes
pub mod Stores
pub mod Leaves
