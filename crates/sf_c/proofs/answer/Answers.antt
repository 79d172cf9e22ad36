use Rattle.std.proofs.Common.{ℤ, subst, rules}
use Rattle.sf_engine.specs.Views.{EngineView}
use Rattle.sf_c.specs.Numbers.{LeadsToNumber}
use Rattle.sf_c.proofs.Calls.{stored}
use Rattle.sf_c.proofs.answer.Goals as goal

pub returns : goal.returns
returns c =
    let old = c.take-engine.result.value in
    let n = c.apply-number.result in
    let new = c.apply-number.new.engine in
    let leads = subst (λ (e : EngineView). LeadsToNumber e c.args.event.now n new) c.deref_mut.ensures.value c.apply-number.ensures in
    (old, new, c.take-engine.ensures.engine, c.put.ensures, stored (λ (m : ℤ). LeadsToNumber old c.args.event.now m new) n (search rules) leads)
