pub mod Absent
pub mod Firsts
mod Leaving
