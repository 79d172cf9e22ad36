use Rattle.std.proofs.Common.{◌+◌, ◌*◌, length, Option, Some, None, ℕ}
use Rattle.sf_client.specs.declared.fault.ClientFault.{ClientFault}
use Rattle.sf_client.specs.Ahead.{sender}
use Rattle.sf_client.proofs.Writing.{Writing}
use Rattle.sf_client.proofs.client.Client.write_pieces.Given as goal

abbrev pub invariant-pieces : goal.invariant-pieces
invariant-pieces g l = Writing l.handle l.bytes l.fn.self l.rest l.offset (sender l.self l.ahead)

-- a stop occurs once
abbrev still : Option ClientFault → ℕ
still None = 1
still (Some f) = 0

abbrev pub decreases-pieces : goal.decreases-pieces
decreases-pieces g l = 2 * length l.rest + l.ahead.waiting + still l.ahead.stopped
