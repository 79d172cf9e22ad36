use Rattle.std.proofs.Common.{◌≡◌, ℕ, Bool, true, false, ◌||◌, nat_eq, length, is_some, refl, sym, ap, ◌∙◌}
use Rattle.std.proofs.lemmas.Bool.{eqb-true, eq-eqb}
use Rattle.sf_path.specs.Names.{Path}
use Rattle.sf_call.specs.Tree.{after_front}
use Rattle.sf_call.proofs.Nested.{AreAlike, begins_where}
use Rattle.sf_call.proofs.route.are_nested.Goals as goal

-- the comparison with a path's length decides the prefix
front_is : (front path : Path) (n len : ℕ) → AreAlike front path n → len ≡ length front → nat_eq n len ≡ is_some (after_front front path)
front_is front path n len are is = ap (nat_eq n) is ∙ begins_where front path n are

differ : (n m : ℕ) → (n ≡ m → ⊥) → (b : Bool) → nat_eq n m ≡ b → b ≡ false
differ n m not true e = absurd (not (eqb-true n m e))
differ n m not false e = refl

pub returns-then-alike-len : goal.returns-then-alike-len
returns-then-alike-len c =
    let k = c.common-alike.ensures in
    let old = front_is c.args.old.now c.args.new.now c.common-alike.result c.len.result (record { alike = k.alike; within = k.within; longest = k.longest }) c.len.ensures in
    let same = eq-eqb c.common-alike.result c.len.result c.if-alike-len.true in
    same ∙ sym (ap (λ b. b || is_some (after_front c.args.new.now c.args.old.now)) (sym old ∙ same))

pub returns-else-alike-len : goal.returns-else-alike-len
returns-else-alike-len c =
    let k = c.common-alike.ensures in
    let old = front_is c.args.old.now c.args.new.now c.common-alike.result c.len.result (record { alike = k.alike; within = k.within; longest = k.longest }) c.len.ensures in
    let new = front_is c.args.new.now c.args.old.now c.common-alike.result c.len-else-alike-len.result (record { alike = sym k.alike; within = k.within_other; longest = λ less short e. k.longest short less (sym e) }) c.len-else-alike-len.ensures in
    let less = differ c.common-alike.result c.len.result c.if-alike-len.false (nat_eq c.common-alike.result c.len.result) refl in
    new ∙ sym (ap (λ b. b || is_some (after_front c.args.new.now c.args.old.now)) (sym old ∙ less))
