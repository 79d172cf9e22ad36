pub mod SpelledFields
pub mod RequestLaws
pub mod AskedLaws
pub mod SentRequests
pub mod Laws
