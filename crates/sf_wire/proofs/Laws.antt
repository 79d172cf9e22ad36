-- For dependent crates: the laws of framing, about definitions only. All other files here are
-- private to this crate.

-- framing proceeds packet by packet
pub use Rattle.sf_wire.proofs.Streams.{cut_by_packets}
-- the first packets precede the framing of the remaining bytes
pub use Rattle.sf_wire.proofs.Streams.{cut_after, cut_left}
-- the first packet is unique; appended bytes don't change it if it is whole or its length is wrong;
-- a packet has a body
pub use Rattle.sf_wire.proofs.Cuts.{one_cut}
pub use Rattle.sf_wire.proofs.Streams.{cut_stays, whole_has_body}
-- no packet is a proper prefix of another
pub use Rattle.sf_wire.proofs.OneForm.{one_packet}
