use Rattle.std.proofs.Common.{ℤ, subst, rules}
use Rattle.sf_refusing.specs.declared.refusals.Refusals.{Refusals}
use Rattle.sf_c.specs.Rules.{GivesRule}
use Rattle.sf_c.proofs.Calls.{stored}
use Rattle.sf_c.proofs.lucernetick_refuse.Goals as goal

pub returns : goal.returns
returns c =
    let old = c.take-refusals.result.value in
    let n = c.give_rule-number.result in
    let new = c.give_rule-number.new.refusals in
    let given = subst (λ (r : Refusals). GivesRule c.args.parts.now c.args.text.now r n new) c.deref_mut.ensures.value c.give_rule-number.ensures in
    (old, new, c.take-refusals.ensures.refusals, c.put.ensures, stored (λ (m : ℤ). GivesRule c.args.parts.now c.args.text.now old m new) n (search rules) given)
