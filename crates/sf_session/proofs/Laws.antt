-- For dependent crates: the lengths of the packets that a session sends. The laws are about
-- definitions only. All other files here are private to this crate.

-- VERSION, a reply without a call, and the refusal of a call
pub use Rattle.sf_session.proofs.ShortPackets.{version_short, local_short, refusal_short}
-- what a session's next packet adds to its output
pub use Rattle.sf_session.proofs.ShortPackets.{answered_short, next_short}
-- one more processed body and what it requires; the bytes of a body, and those after its packet
pub use Rattle.sf_session.proofs.Asked.{all_push, begun_after, begun_is, begun_stays, begun_push, asked_push, asked_each, map_push, whole_bytes, rest_bytes}
-- no packet ends a session as closed
pub use Rattle.sf_session.proofs.Causes.{not_closed}
