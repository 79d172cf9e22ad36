use Rattle.std.proofs.Common.{◌≡◌, ◌≤◌, ℕ, List, Option, Some, None, refl, sym, ap, ◌∙◌, subst, arith, length, slice_get}
use Rattle.std.specs.Prelude.{IfNone}
use Rattle.std.proofs.lemmas.Bool.{ltb-true, ltb-false}
use Rattle.std.proofs.lemmas.Option.{slice_get_read}
use Rattle.sf_refusing.specs.declared.given.GivenRule.{GivenRule}
use Rattle.sf_refusing.specs.Journal.{Act, since_given}
use Rattle.sf_refusing.specs.Refusing.{HasJournal}
use Rattle.sf_refusing.proofs.Growing.{since_none}
use Rattle.sf_refusing.proofs.refusals.Refusals.refused.Goals as goal

pub returns-in_err-get-clause-none : goal.returns-in_err-get-clause-none
returns-in_err-get-clause-none c =
    let long : length c.deref.result.now ≤ c.args.number = ltb-false c.args.number (length c.deref.result.now) (sym c.in_err-get.ensures.lookup.0) in
    let same : length c.deref.result.now ≡ length c.args.self.now.rules.items = ap (λ (rs : List GivenRule). length rs) c.deref.ensures.value in
    subst (λ (r : Option ℕ). IfNone r ((journal : List Act) → HasJournal c.args.self.now journal → since_given journal c.args.number ≡ None)) (sym c.from_residual.ensures)
    (λ journal H. since_none journal c.args.number (omega (arith, long, same, H.rules.count)))

pub returns-clause-some : goal.returns-clause-some
returns-clause-some c = λ journal H.
    let given : GivenRule = c.in_ok-get.field-0.now in
    let there : slice_get c.deref.result.now c.args.number ≡ Some given =
    slice_get_read c.deref.result.now (length c.deref.result.now) c.args.number given refl (ltb-true c.args.number (length c.deref.result.now) (sym c.in_ok-get.ensures.lookup.0)) c.in_ok-get.ensures.lookup.1 in
    let G = H.rules.each c.args.number given (ap (λ (rs : List GivenRule). slice_get rs c.args.number) (sym c.deref.ensures.value) ∙ there) in
    (given.rule, G.since, G.is, G.counted)
