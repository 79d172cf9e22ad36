use Rattle.std.proofs.Common.{subst}
use Rattle.sf_core.specs.Stuck.{IsNeverStuck}
use Rattle.sf_core.proofs.Stuck.{never_stuck}
use Rattle.sf_core.proofs.cores.Core.never_stuck.Goals as goal

pub returns : goal.returns
returns c = subst IsNeverStuck c.self.view_is (never_stuck c.self.inside.parts c.self.invariant.0)
