-- Removing an absent entry changes nothing.
use Rattle.std.specs.Prelude.{◌≡◌, cond, Bool, true, false, List, [], ◌∷◌, Some, None}
use Rattle.std.specs.Map.{lookup, remove_entry}
use Rattle.std.proofs.Common.{refl, ap}

pub absent_removed : {K X : Type 0} (test : K → Bool) (es : List (K × X)) → lookup test es ≡ None → remove_entry test es ≡ es
absent_removed test [] none = refl
absent_removed {K} {X} test (e ∷ es) none =
    elim (test e.0) as (λ b. cond b (Some e.1) (lookup test es) ≡ None → cond b es (e ∷ remove_entry test es) ≡ e ∷ es) [
      | true ↦ λ k. let no : Some e.1 ≡ None = k in cc
      | false ↦ λ k. ap (λ (rest : List (K × X)). e ∷ rest) (absent_removed test es k)
    ] none
