use Rattle.sf_reply.proofs.ReadingLoop.{entries_counted}
use Rattle.sf_reply.proofs.reading.last_names.Goals as goal

pub returns-then-is_empty-clause-counted : goal.returns-then-is_empty-clause-counted
returns-then-is_empty-clause-counted c = entries_counted c.in_ok-count.count c.in_ok-count.entries.now c.in_ok-rest.rest.now c.in_ok-rest.ensures
