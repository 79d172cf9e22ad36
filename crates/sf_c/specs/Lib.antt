pub mod Making
pub mod Numbers
pub mod Journals
pub mod Rules
pub mod Owned
pub mod Records
pub mod Trees
