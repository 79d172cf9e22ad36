use Rattle.std.proofs.Common.{◌≡◌, ◌+◌, ◌/◌, ◌<◌, ℕ, [], length, slice_index_or}
use Rattle.sf_block.specs.Blocks.{block_in, block_written}
use Rattle.sf_block.proofs.contents.renewed.Given as goal

abbrev pub invariant-loop-number : goal.invariant-loop-number
invariant-loop-number l = record {
  count : l.first + length l.fresh ≡ l.number;
  blocks : (j : ℕ) → j < length l.fresh → slice_index_or l.fresh j [] ≡ block_written (block_in l.blocks) l.offset l.bytes (l.offset / 4096 + j);
}
