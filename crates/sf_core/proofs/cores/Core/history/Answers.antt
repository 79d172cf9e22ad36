use Rattle.std.proofs.Common.{subst}
use Rattle.sf_core.specs.Cores.{CoreView}
use Rattle.sf_core.specs.Histories.{IsHistory}
use Rattle.sf_core.proofs.cores.Core.history.Goals as goal

pub returns-clause-whole : goal.returns-clause-whole
returns-clause-whole c =
    let core = c.self.invariant.0 in
    (core.history, subst (λ (v : CoreView). IsHistory v core.history) c.self.view_is core.sound.history)
