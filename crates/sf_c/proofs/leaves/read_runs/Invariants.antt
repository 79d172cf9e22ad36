use Rattle.std.proofs.Common.{◌-◌, ◌≤◌, drop}
use Rattle.sf_c.specs.Trees.{IsFilled}
use Rattle.sf_c.proofs.leaves.read_runs.Given as goal

abbrev pub invariant-runs : goal.invariant-runs
invariant-runs l = (l.done ≤ l.count) × IsFilled (drop l.offset l.contents) l.done l.fn.room l.room

abbrev pub decreases-runs : goal.decreases-runs
decreases-runs l = l.count - l.done
