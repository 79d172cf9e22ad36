use Rattle.std.proofs.Common.{◌≡◌, ℕ, List, [], ◌∷◌, ◌++◌, ◌+◌, false, Some, refl, sym, subst, arith}
use Rattle.sf_refusing.specs.declared.given.GivenRule.{GivenRule}
use Rattle.sf_refusing.specs.Journal.{Act, Ruled, since_given}
use Rattle.sf_refusing.specs.Refusing.{AreGiven}
use Rattle.sf_refusing.proofs.Growing.{happened_more, since_new}
use Rattle.sf_refusing.proofs.Counts.{new_rules}
use Rattle.sf_refusing.proofs.Steps.{other_serves}
use Rattle.sf_refusing.proofs.refusals.Refusals.rule.Goals as goal

pub returns-clause-ok : goal.returns-clause-ok
returns-clause-ok c = λ journal H.
    let act : Act = Ruled c.args.rule in
    let rules = new_rules journal c.args.self.now.rules.items c.args.rule c.new.result c.new.ensures H.rules in (
      record {
        happened = happened_more [] journal act H.happened tt;
        each = λ i p at. other_serves journal (i + 1) act p.held.items p.output.items p.begun refl refl refl refl refl (H.each i p at);
        others = λ s none. other_serves journal s act [] [] false refl refl refl refl refl (H.others s none);
        rules = subst (λ (rs : List GivenRule). AreGiven (journal ++ act ∷ []) rs) (sym c.in_ok-push.ensures.items) rules;
      },
      subst (λ (n : ℕ). since_given (journal ++ act ∷ []) n ≡ Some (c.args.rule, [])) (omega (arith, H.rules.count, c.len-number.ensures, c.args.self.now.rules.ok.0)) (since_new journal c.args.rule),
    )
