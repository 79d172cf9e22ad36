use Rattle.std.proofs.Common.{ℕ}
use Rattle.sf_pool.specs.SessionLanes.{Notes}
use Rattle.sf_server.specs.Accepting.{nothing}
use Rattle.sf_server.proofs.accepting.next_line.Given as goal

-- nothing was given so far
abbrev pub invariant-loop : goal.invariant-loop
invariant-loop g l = (n : ℕ) × Notes (g.A.Acceptor.given l.initial.acceptor) (g.A.Acceptor.given l.acceptor) (nothing n)
