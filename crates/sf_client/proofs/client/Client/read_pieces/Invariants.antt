use Rattle.std.proofs.Common.{length}
use Rattle.sf_client.specs.Ahead.{sender}
use Rattle.sf_client.proofs.Pipelines.{Position, measure}
use Rattle.sf_client.proofs.Reading.{reading}
use Rattle.sf_client.proofs.client.Client.read_pieces.Given as goal

abbrev pub invariant-pieces : goal.invariant-pieces
invariant-pieces g l = Position (reading l.handle) l.fn.self l.bytes.items (sender l.self l.ahead)

abbrev pub decreases-pieces : goal.decreases-pieces
decreases-pieces g l = measure l.ahead.stopped (length l.bytes.items) l.ahead.dropped l.ahead.waiting
