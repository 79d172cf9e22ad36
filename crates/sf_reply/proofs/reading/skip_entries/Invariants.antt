use Rattle.std.proofs.Common.{◌≡◌, ◌-◌}
use Rattle.sf_reply.specs.Reading.{after_entries}
use Rattle.sf_reply.proofs.reading.skip_entries.Given as goal

abbrev pub invariant-loop : goal.invariant-loop
invariant-loop l = after_entries (l.count - l.counter) l.rest ≡ after_entries l.count l.bytes
