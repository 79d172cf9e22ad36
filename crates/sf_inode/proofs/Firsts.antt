-- The first elements of a list, taken one by one.
use Rattle.std.specs.Prelude.{◌≡◌, ℕ, suc, ◌+◌, List, [], ◌∷◌, ◌++◌, take}
use Rattle.std.proofs.Common.{sym, ap, ◌∙◌, arith}

moved_over : {A : Type 0} (found later : List A) (e : A) → (found ++ e ∷ []) ++ later ≡ found ++ e ∷ later
moved_over [] later e = λ i. e ∷ later
moved_over (f ∷ found) later e = ap (λ (rest : List _). f ∷ rest) (moved_over found later e)

pub one_more_taken : {A : Type 0} (found left rest : List A) (k n : ℕ) (e : A) → left ≡ e ∷ rest → k + 1 ≡ n → (found ++ e ∷ []) ++ take k rest ≡ found ++ take n left
one_more_taken found left rest k n e is less =
    let next : suc k ≡ n = omega (arith, less) in
    moved_over found (take k rest) e ∙ (λ i. found ++ take (next i) (sym is i))
