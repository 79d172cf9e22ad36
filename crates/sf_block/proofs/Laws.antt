-- For other crates: laws of the blocks of a file. They use definitions alone. All other files here
-- are private to this crate.

-- the most blocks of a write
pub use Rattle.sf_block.proofs.Counts.{blocks_few}
