pub mod Entries
pub mod OneReply
pub mod Columns
pub mod LineLengths
pub mod LineEnds
pub mod Laws
pub mod ReplyReading
pub mod ReadingLoop
