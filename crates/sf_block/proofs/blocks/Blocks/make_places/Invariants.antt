use Rattle.std.proofs.Common.{◌≡◌, ◌<◌, ◌≤◌, ◌/◌, ◌-◌, ◌*◌, min, ℕ, [], length, slice_index_or}
use Rattle.sf_block.specs.Blocks.{row_in}
use Rattle.sf_block.proofs.blocks.Blocks.make_places.Given as goal

abbrev pub invariant-loop-number : goal.invariant-loop-number
invariant-loop-number l = record {
  same : (r j : ℕ) → slice_index_or (row_in l.self r) j [] ≡ slice_index_or (row_in l.fn.self r) j [];
  there : (r : ℕ) → l.first / 8 ≤ r → r < l.number → min (l.end - r * 8) 8 ≤ length (row_in l.self r);
}
