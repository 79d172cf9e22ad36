use Rattle.std.proofs.Common.{◌≡◌, take}
use Rattle.std.specs.List.{count_by}
use Rattle.sf_book.specs.Books.{is_call}
use Rattle.sf_audit.proofs.totals.call_count.Given as goal

abbrev pub invariant-loop-entry : goal.invariant-loop-entry
invariant-loop-entry l = l.count ≡ count_by is_call (take l.entry-index l.records)
