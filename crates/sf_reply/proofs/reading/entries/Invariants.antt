use Rattle.std.proofs.Common.{◌≡◌, ◌-◌}
use Rattle.sf_reply.specs.Reading.{entries_at}
use Rattle.sf_reply.proofs.ReadingLoop.{after}
use Rattle.sf_reply.proofs.reading.entries.Given as goal

abbrev pub invariant-loop : goal.invariant-loop
invariant-loop l = after l.entries.items (entries_at (l.count - l.counter) l.rest) ≡ entries_at l.count l.bytes
