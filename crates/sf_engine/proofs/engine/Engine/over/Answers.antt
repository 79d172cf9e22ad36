use Rattle.std.proofs.Common.{[], subst}
use Rattle.sf_core.specs.Cores.{CoreView}
use Rattle.sf_core.specs.Histories.{IsHistory}
use Rattle.sf_engine.proofs.Runs.{first_log}
use Rattle.sf_engine.proofs.engine.Engine.over.Goals as goal

pub invariant_of-result : goal.invariant_of-result
invariant_of-result c =
    let core = c.requires.core in
    let P : CoreView → Type 0 = λ v. IsHistory v [] in
    rw (core, c.new.ensures.items) ([], first_log c.args.core.keep c.args.core.store (subst P core c.requires.history))

pub returns-clause-log : goal.returns-clause-log
returns-clause-log c =
    let core = c.requires.core in
    let P : CoreView → Type 0 = λ v. IsHistory v [] in
    rw (core, c.new.ensures.items) (first_log c.args.core.keep c.args.core.store (subst P core c.requires.history))
