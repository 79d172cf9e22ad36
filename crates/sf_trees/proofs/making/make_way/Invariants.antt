use Rattle.std.proofs.Common.{Ok}
use Rattle.sf_trees.specs.Operations.{Does}
use Rattle.sf_trees.specs.Makings.{MakesTo}
use Rattle.sf_trees.proofs.making.make_way.Given as goal

abbrev pub invariant-loop-at : goal.invariant-loop-at
invariant-loop-at g l = Does g.S.Server.reaches l.initial.server l.server (MakesTo l.session l.whole l.path l.at) (Ok tt)
