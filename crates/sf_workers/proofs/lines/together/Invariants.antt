use Rattle.std.proofs.Common.{◌≡◌, ◌+◌, ◌*◌, length, All}
use Rattle.sf_noted.specs.Visits.{visit_calls}
use Rattle.sf_workers.specs.Streams.{ServesEach}
use Rattle.sf_workers.proofs.lines.together.Given as goal

-- what was taken so far, and what is left
abbrev pub invariant-loop-worked : goal.invariant-loop-worked
invariant-loop-worked g l = record {
  counted : l.all_shares.amount ≡ visit_calls l.sessions.visits.items;
  parts : l.all_shares.parts + 257 * length l.worked-iterator.rest.items ≡ l.fn.rest.0.parts + 257 * length l.fn.all.items;
  keeps : l.sessions.keeps ≡ l.keeps;
  each : ServesEach l.all_receipts l.sessions.visits.items;
  left : All (λ w. w.served.sessions.keeps ≡ l.keeps) l.worked-iterator.rest.items;
  left_each : All (λ w. ServesEach w.receipts w.served.sessions.visits.items) l.worked-iterator.rest.items;
}
