use Rattle.sf_walk.proofs.LookUps.{looked_none}
use Rattle.std.proofs.Common.{◌∙◌, sym, refl}
use Rattle.sf_call.specs.Calls.{stat}
use Rattle.sf_walk.proofs.PathCalls.{nowhere_served, stat_served, stat_gone}
use Rattle.sf_walk.proofs.path_calls.stat.Goals as goal

pub returns-in-Err-clause-served : goal.returns-in-Err-clause-served
returns-in-Err-clause-served c = λ t p h is. nowhere_served _ _ t p _ (looked_none c.args.store.now) h stat refl c.args.located _ c.in-Err.ensures.nowhere is

pub returns-in-Some-clause-served : goal.returns-in-Some-clause-served
returns-in-Some-clause-served c = λ t p h is. stat_served _ _ t p _ (looked_none c.args.store.now) h _ _ _ (sym c.in-Ok.ensures.at ∙ is) c.in-Some.ensures

pub returns-in-None-clause-served : goal.returns-in-None-clause-served
returns-in-None-clause-served c = λ t p h is. stat_gone _ _ t p _ (looked_none c.args.store.now) h _ _ (sym c.in-Ok.ensures.at ∙ is) c.in-None.ensures
