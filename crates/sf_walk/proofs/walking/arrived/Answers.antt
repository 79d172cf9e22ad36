use Rattle.std.proofs.Common.{◌≡◌, Bool, true, false, not, Some, refl, sym, ap, ◌∙◌}
use Rattle.sf_path.specs.Names.{Name}
use Rattle.sf_path.specs.Order.{same_name}
use Rattle.sf_call.proofs.Laws.{same_name_is, same_name_itself}
use Rattle.sf_walk.proofs.Parting.{comes_apart, comes_before}
use Rattle.sf_walk.proofs.walking.arrived.Goals as goal

differ : (n m : Name) → true ≡ not (same_name n m) → Some n ≡ Some m → ⊥
differ n m e same =
    let one : n ≡ m = cc in
    let told : same_name n m ≡ true = ap (same_name n) (sym one) ∙ same_name_itself n in
    cc

alike : (n m : Name) → false ≡ not (same_name n m) → n ≡ m
alike n m e = same_name_is n m (by (same_name n m) e)
  where
    by : (b : Bool) → false ≡ not b → b ≡ true
    by true e = refl
    by false e = cc

pub returns-then-ne : goal.returns-then-ne
returns-then-ne c =
    comes_apart c.args.old.now c.args.new.now c.args.to c.requires
    (λ e. differ c.name.result.now c.name-2.result.now c.if-ne.ensures (sym c.name.ensures ∙ e ∙ c.name-2.ensures))

pub returns : goal.returns
returns c =
    comes_before c.args.old.now c.args.new.now c.args.to c.requires
    (c.name.ensures ∙ ap Some (alike c.name.result.now c.name-2.result.now c.if-ne.ensures) ∙ sym c.name-2.ensures)
