use Rattle.std.proofs.Common.{length}
use Rattle.sf_client.specs.Ahead.{sender}
use Rattle.sf_client.proofs.Pipelines.{Position, measure}
use Rattle.sf_client.proofs.Listing.{listing}
use Rattle.sf_client.proofs.client.Client.list_all.Given as goal

abbrev pub invariant-parts : goal.invariant-parts
invariant-parts g l = Position (listing l.handle) l.fn.self l.entries.items (sender l.self l.ahead)

abbrev pub decreases-parts : goal.decreases-parts
decreases-parts g l = measure l.ahead.stopped (length l.entries.items) l.ahead.dropped l.ahead.waiting
