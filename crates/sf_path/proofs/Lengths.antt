-- The text of a path is at most one byte longer than any text that denotes that path.
use Rattle.std.proofs.Common.{◌≡◌, refl, ℕ, suc, ◌+◌, ◌-◌, ◌≤◌, Bool, true, false, le-ltb, cond, ◌==◌, ◌||◌, List, [], ◌∷◌, ◌++◌, length, take, zero, arith, length-append}
use Rattle.std.specs.Prelude.{fold, codes, bytes_eq, nat_lt}
use Rattle.std.specs.List.{onto_first, flat_map, list_any}
use Rattle.std.proofs.lemmas.List.Concat.{flat_map-append}
use Rattle.sf_path.specs.Names.{Path, slash, slashed, text_of}
use Rattle.sf_path.specs.Normal.{parts, with_part, norm}

-- the total length of the parts, each with one slash
abbrev slashed_len : List (List ℕ) → ℕ
slashed_len [] = 0
slashed_len (part ∷ more) = length part + 1 + slashed_len more

onto_first_len : (x n : ℕ) (ps : List (List ℕ)) → slashed_len ps ≤ n + 1 → slashed_len (onto_first x ps) ≤ n + 2
onto_first_len x n [] h = omega arith
onto_first_len x n (p ∷ ps) h = omega arith

parts_len_step : (x n : ℕ) (is_slash : Bool) (ps : List (List ℕ)) → slashed_len ps ≤ n + 1 → slashed_len (cond is_slash ([] ∷ ps) (onto_first x ps)) ≤ n + 2
parts_len_step x n true ps h = omega arith
parts_len_step x n false ps h = onto_first_len x n ps h

parts_len : (text : List ℕ) → slashed_len (parts text) ≤ length text + 1
parts_len [] = omega arith
parts_len (x ∷ xs) = let step = parts_len_step x (length xs) (x == slash) (parts xs) (parts_len xs) in omega arith

front_len : (n : ℕ) (path : Path) → length (flat_map slashed (take n path)) ≤ length (flat_map slashed path)
front_len zero path = omega arith
front_len (suc n) [] = omega arith
front_len (suc n) (name ∷ names) =
    omega (arith, front_len n names, length-append name (flat_map slashed (take n names)), length-append name (flat_map slashed names))

with_part_len : (path : Path) (part : List ℕ) (stays up : Bool)
    → length (flat_map slashed (cond stays path (cond up (take (length path - 1) path) (path ++ part ∷ [])))) ≤ length (flat_map slashed path) + (length part + 1)
with_part_len path part true up = omega arith
with_part_len path part false true = omega (arith, front_len (length path - 1) path)
with_part_len path part false false =
    rw (flat_map-append slashed path (part ∷ [])) (omega (arith, length-append (flat_map slashed path) (slashed part ++ []), length-append part []))

fold_len : (path : Path) (ps : List (List ℕ)) → length (flat_map slashed (fold with_part path ps)) ≤ length (flat_map slashed path) + slashed_len ps
fold_len path [] = omega arith
fold_len path (p ∷ ps) = omega (arith, fold_len (with_part path p) ps, with_part_len path p (bytes_eq p (codes "") || bytes_eq p (codes ".")) (bytes_eq p (codes "..")))

text_len : (path : Path) (n : ℕ) → length (flat_map slashed path) ≤ n + 1 → length (text_of path) ≤ n + 1
text_len [] n h = omega arith
text_len (name ∷ names) n h = h

pub length-text_of-norm : (text : List ℕ) → length (text_of (norm text)) ≤ length text + 1
length-text_of-norm text = text_len (norm text) (length text) (omega (arith, fold_len [] (parts text), parts_len text))

no_long_part : (n : ℕ) (ps : List (List ℕ)) → slashed_len ps ≤ n + 1 → n ≤ 255 → list_any (λ part. nat_lt 255 (length part)) ps ≡ false
no_long_part n [] h small = refl
no_long_part n (p ∷ ps) h small =
    let rest : slashed_len ps ≤ n + 1 = omega arith in
    rw (le-ltb 255 (length p) (omega arith)) (no_long_part n ps rest small)

-- a short text has no long component
pub short_text : (text : List ℕ) → length text ≤ 255 → list_any (λ part. nat_lt 255 (length part)) (parts text) ≡ false
short_text text small = no_long_part (length text) (parts text) (parts_len text) small
