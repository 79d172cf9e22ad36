-- For the crates above: laws of the entries of a roll. They speak of definitions alone. All other
-- files here are private to this crate.

-- what stands in a list after one entry was set, at its place and elsewhere
pub use Rattle.sf_roll.proofs.Moves.{get_set, get_set_else}
-- prefixes of a list
pub use Rattle.sf_roll.proofs.Growing.{prefix_self, prefix_empty, prefix_append, prefix_trans}
