use Rattle.std.proofs.Common.{◌≡◌, drop}
use Rattle.sf_walk.specs.Ways.{way_from}
use Rattle.sf_walk.specs.Served.{LookedUp}
use Rattle.sf_walk.proofs.finding.locate.Given as goal

abbrev pub invariant-loop-i : goal.invariant-loop-i
invariant-loop-i l = record {
  nodes : l.store.nodes ≡ l.initial.store.nodes;
  way : way_from l.initial.store.nodes l.parent l.node (drop l.i l.path) ≡ way_from l.initial.store.nodes l.initial.store.root l.initial.store.root l.path;
  looked : LookedUp l.initial.store l.store l.i;
}
