use Rattle.sf_server.proofs.Connections.{Taking}
use Rattle.sf_server.proofs.accepting.accept_all.Given as goal

-- as many as were asked for so far were given and taken
abbrev pub invariant-loop : goal.invariant-loop
invariant-loop g l = Taking (g.A.Acceptor.given l.initial.acceptor) (g.A.Acceptor.given l.acceptor) (g.T.Taker.taken l.initial.taker) (g.T.Taker.taken l.taker) l.counter
