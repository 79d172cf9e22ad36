pub mod FieldLaws
pub mod AttributeLaws
pub mod Loop
pub mod SentAttributes
pub mod Laws
pub mod FlagBits
pub mod SentReading
pub mod Held
