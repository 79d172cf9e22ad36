-- The prefixes of a path.
use Rattle.std.proofs.Common.{◌≡◌, ℕ, zero, suc, ◌<◌, ◌↔◌, Bool, true, false, not, List, [], ◌∷◌, length, take, get_or, refl, sym, ap, ◌∙◌, arith}
use Rattle.std.specs.List.{list_any}
use Rattle.std.proofs.lemmas.List.{length-map, get_or-map}
use Rattle.std.proofs.lemmas.List.Folds.{list_any_none, list_any_at}
use Rattle.sf_path.specs.Names.{Path}
use Rattle.sf_call.specs.Tree.{Tree, is_directory, proper_fronts, is_faulty_way}

pub length-proper_fronts : (path : Path) → length (proper_fronts path) ≡ length path
length-proper_fronts [] = refl
length-proper_fronts (n ∷ path) = let e = length-map (proper_fronts path) (λ (front : Path). n ∷ front) in let r = length-proper_fronts path in omega arith

pub get_or-proper_fronts : (path : Path) (n : ℕ) (d : Path) → n < length path → get_or (proper_fronts path) n d ≡ take n path
get_or-proper_fronts [] n d lt = absurd (omega arith)
get_or-proper_fronts (name ∷ path) zero d lt = refl
get_or-proper_fronts (name ∷ path) (suc n) d lt =
    let short : n < length path = omega arith in
    get_or-map (λ (front : Path). name ∷ front) (proper_fronts path) n [] d (rw (length-proper_fronts path) short) ∙ ap (λ (front : Path). name ∷ front) (get_or-proper_fronts path n [] short)

is_there : (b : Bool) → not b ≡ false → b ≡ true
is_there true e = refl
is_there false e = cc

none_at : {X : Type 0} (p : X → Bool) (xs : List X) (n : ℕ) (d : X) → list_any p xs ≡ false → n < length xs → p (get_or xs n d) ≡ false
none_at p xs n d none lt =
    elim (p (get_or xs n d)) as (λ b. p (get_or xs n d) ≡ b → b ≡ false) [
      | true ↦ λ t. let some = list_any_at p xs n d lt t in cc
      | false ↦ λ t. refl
    ] refl

pub open_way : (tree : Tree) (path : Path) → (is_faulty_way tree path ≡ false) ↔ ((n : ℕ) → n < length path → is_directory tree (take n path) ≡ true)
open_way tree path = (
  (λ none n lt. is_there (is_directory tree (take n path)) (ap (λ (front : Path). not (is_directory tree front)) (sym (get_or-proper_fronts path n [] lt))
      ∙ none_at (λ front. not (is_directory tree front)) (proper_fronts path) n [] none (rw (length-proper_fronts path) lt))),
  (λ all. list_any_none (λ front. not (is_directory tree front)) (proper_fronts path)
      (λ n d lt. let short : n < length path = rw (length-proper_fronts path) at lt in
      ap (λ (front : Path). not (is_directory tree front)) (get_or-proper_fronts path n d short) ∙ ap not (all n short))),
)
