use Rattle.std.proofs.Common.{◌≡◌, ℕ, Some, length, slice_get, refl, ap, sym, ◌∙◌, arith, inl, inr}
use Rattle.std.proofs.lemmas.Bool.{cases_eq}
use Rattle.std.proofs.lemmas.Option.{slice_get_read, slice_get_within}
use Rattle.sf_refusing.specs.declared.given.GivenRule.{GivenRule}
use Rattle.sf_refusing.specs.Counting.{refuses_now}
use Rattle.sf_refusing.proofs.Growing.{some_same}
use Rattle.sf_refusing.proofs.given.first_refusing.Goals as goal

pub rules-preserved : goal.rules-preserved
rules-preserved c = λ other given lt at.
    let rules = c.args.rules.now in
    let item : GivenRule = c.index-rules-number.result in
    elim (cases_eq other c.rules.number) [
      | inl same ↦
          let got : slice_get rules c.rules.number ≡ Some item = slice_get_read rules (length rules) c.rules.number item refl c.rules-test.true c.index-rules-number.is in
          let is : given ≡ item = some_same given item (sym at ∙ ap (λ (n : ℕ). slice_get rules n) same ∙ got) in
          ap (λ (g : GivenRule). refuses_now g c.args.subject.now.session c.args.subject.now.kind c.args.subject.now.paths.items) is ∙ sym c.refuses.ensures ∙ c.if-refuses.false
      | inr ne ↦ c.rules.invariant other given (omega (arith, lt, ne)) at
    ]

pub returns-clause-none : goal.returns-clause-none
returns-clause-none c = λ other given at. c.rules.invariant other given (omega (arith, slice_get_within c.args.rules.now other given at, c.rules-test.false)) at
