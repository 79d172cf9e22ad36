pub mod Pages
pub mod PageChanges
pub mod Noted
pub mod Growth
pub mod Seen
pub mod Visits
pub mod Closing
