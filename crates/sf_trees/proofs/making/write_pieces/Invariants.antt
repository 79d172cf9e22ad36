use Rattle.std.proofs.Common.{Ok}
use Rattle.sf_trees.specs.Operations.{Does, request_place}
use Rattle.sf_trees.specs.Makings.{WritesTo}
use Rattle.sf_trees.proofs.making.write_pieces.Given as goal

abbrev pub invariant-loop-at : goal.invariant-loop-at
invariant-loop-at g l = Does g.S.Server.reaches l.initial.server l.server (WritesTo l.session l.handle (request_place 6 l.named) l.contents l.at) (Ok tt)
