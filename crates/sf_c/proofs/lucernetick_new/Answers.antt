use Rattle.std.proofs.Common.{[], refl, sym, subst, inr}
use Rattle.sf_engine.specs.Views.{EngineView}
use Rattle.sf_refusing.specs.declared.refusals.Refusals.{Refusals}
use Rattle.sf_refusing.specs.Refusing.{HasJournal}
use Rattle.sf_c.specs.Numbers.{IsFresh}
use Rattle.sf_c.proofs.lucernetick_new.Goals as goal

pub returns : goal.returns
returns c = inr (
  c.in-Ok-new.engine.value,
  c.in-Ok-new-2.refusals.value,
  refl,
  c.put.ensures,
  c.put-2.ensures,
  subst (λ (e : EngineView). IsFresh c.args.keep e) (sym c.in-Ok-new.ensures.ok) c.in-Ok.ensures,
  subst (λ (r : Refusals). HasJournal r []) (sym c.in-Ok-new-2.ensures.ok) c.new-2.ensures,
)
