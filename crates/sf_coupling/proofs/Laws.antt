-- For other crates: laws of lock coupling. They use definitions alone. All other files here are
-- private to this crate.

-- of two prefixes of one path, one is a prefix of the other
pub use Rattle.sf_coupling.proofs.Fronts.{begins_itself, begins_root, begins_trans, begins_snoc, fronts_meet, begins_both}
-- two numbers are equal or not; an inode is that of a held path, or of none
pub use Rattle.sf_coupling.proofs.Keeping.{same_or_not, node_or_not}
-- the changes that preserve the invariant: a call that moves or releases, and a step to a free
-- directory
pub use Rattle.sf_coupling.proofs.Keeping.{keeps_walks, let_go_keeps}
pub use Rattle.sf_coupling.proofs.Stepping.{step_keeps, takes_held, takes_new, waits_at_top}
-- an inode is held by one call
pub use Rattle.sf_coupling.proofs.Keeping.{held_by_one, holder_is}
