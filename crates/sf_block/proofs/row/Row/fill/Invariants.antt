use Rattle.std.proofs.Common.{◌≡◌, ◌≤◌, ◌-◌, ℕ, [], length, slice_index_or}
use Rattle.sf_block.proofs.row.Row.fill.Given as goal

abbrev pub invariant-loop-self : goal.invariant-loop-self
invariant-loop-self l = record {
  same : (j : ℕ) → slice_index_or l.self-inside.list.items j [] ≡ slice_index_or l.fn.self j [];
  kept : length l.fn.self ≤ length l.self-inside.list.items;
}

abbrev pub decreases-loop-self : goal.decreases-loop-self
decreases-loop-self l = l.count - length l.self-inside.list.items
