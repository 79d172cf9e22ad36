use Rattle.std.proofs.Common.{◌≡◌, ◌+◌, ◌<◌, ◌≤◌, ℕ, slice_index_or}
use Rattle.sf_call.specs.declared.record.Record.{Record}
use Rattle.sf_book.proofs.book.move_to_front.Given as goal

abbrev pub invariant-loop-i : goal.invariant-loop-i
invariant-loop-i l = record {
  moved : (k : ℕ) → k < l.i → (r : Record) → slice_index_or l.entries k r ≡ slice_index_or l.fn.entries (l.gone + k) r;
  left : (k : ℕ) → l.gone + l.i ≤ k → (r : Record) → slice_index_or l.entries k r ≡ slice_index_or l.fn.entries k r;
}
