-- For dependent crates: laws of a session's answers, about definitions only. All other files here
-- are private to this crate.

-- prefixes and batches
pub use Rattle.sf_connection.proofs.Fronts.{transcript_append, none_written, one_packet, front_all, front_same, all_but_last, batch_none, batch_one}
-- an idle session, and one that has ended
pub use Rattle.sf_connection.proofs.Sessions.{rest_asked, rest_stream, ended_same, whole_left}
-- what holds of a session that has not ended
pub use Rattle.sf_connection.proofs.Turns.{if_going}
pub use Rattle.sf_connection.proofs.Rounds.{going_of}
