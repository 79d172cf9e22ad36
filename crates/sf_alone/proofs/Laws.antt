-- For dependent crates: the conversation of a single session. All other files here are private to
-- this crate.

-- serving a single stream yields a conversation
pub use Rattle.sf_alone.proofs.Talking.{talk_of, says_nothing, talked_whole, talked_some}
