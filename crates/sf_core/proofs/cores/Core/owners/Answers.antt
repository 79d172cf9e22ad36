use Rattle.std.proofs.Common.{subst}
use Rattle.sf_core.specs.Owners.{OwnsCalls}
use Rattle.sf_core.proofs.Owners.{owns}
use Rattle.sf_core.proofs.cores.Core.owners.Goals as goal

pub returns : goal.returns
returns c = subst OwnsCalls c.self.view_is (owns c.self.inside.parts c.self.invariant.0)
