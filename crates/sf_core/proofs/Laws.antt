-- For the crates above: which call can proceed, and how many steps remain. This file is about
-- definitions alone. All other files here are private to this crate.

-- of the calls of some sessions one is behind none of the others, and so isn't blocked
pub use Rattle.sf_core.proofs.Stuck.{NoCall, Furthest, furthest, one_call}
-- the number of remaining steps, which decreases with each step that isn't blocked
pub use Rattle.sf_core.proofs.Stuck.{busy_left, idle_left, gone_left, left_stays, goes_falls, writes_falls, copies_falls, fetches_falls, decides_falls}
