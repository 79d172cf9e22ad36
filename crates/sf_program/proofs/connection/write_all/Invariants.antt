-- What is gone from `rest` was written.
use Rattle.sf_program.proofs.Carrying.{Sent}
use Rattle.sf_program.proofs.connection.write_all.Given as goal

abbrev pub invariant-loop : goal.invariant-loop
invariant-loop g l = Sent (g.W.Write.contents l.initial.to) (g.W.Write.contents l.to) l.bytes l.rest
