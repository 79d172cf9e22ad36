-- Parsing the text of a path yields that path. Its only possible fault is its length.
use Rattle.std.proofs.Common.{◌≡◌, ◌≢◌, ℕ, Bool, true, false, ◌==◌, List, [], ◌∷◌, ◌++◌, length, Some, None, refl, sym, ap, ◌∙◌, append_assoc}
use Rattle.std.specs.Prelude.{fold, nat_lt, All, Contains, codes, bytes_eq, if◌then◌else◌}
use Rattle.std.specs.List.{list_any, flat_map}
use Rattle.std.proofs.lemmas.Bool.{ne_eqb, le-ltb}
use Rattle.std.proofs.lemmas.List.{append-nil, get_or_default}
use Rattle.std.proofs.lemmas.List.Elements.{All-head, All-tail}
use Rattle.std.proofs.lemmas.List.Folds.{list_any-append}
use Rattle.std.proofs.lemmas.List.Splits.{slice_split_at, slice_split_none}
use Rattle.std.proofs.lemmas.Slice.Eq.{bytes_eq-Decides}
use Rattle.sf_path.specs.declared.fault.PathFault.TheVariants.{TooLong}
use Rattle.sf_path.specs.Names.{Name, Path, IsName, IsPath, slash, slashed, text_of}
use Rattle.sf_path.specs.Normal.{parts, with_part, norm, fault_of}

not_true : (b : Bool) → (b ≡ true → ⊥) → b ≡ false
not_true true h = absurd (h refl)
not_true false h = refl

not_same : (xs ys : List ℕ) → xs ≢ ys → bytes_eq xs ys ≡ false
not_same xs ys h = not_true (bytes_eq xs ys) (λ e. h ((bytes_eq-Decides xs ys).0 e))

lacks : (xs : List ℕ) (x : ℕ) → ¬ Contains xs x → All (λ b. (b == x) ≡ false) xs
lacks xs x h = λ k d lt. ne_eqb _ _ (λ e. h (k, lt, get_or_default xs k x d lt ∙ e))

parts_of_names : (name : Name) (names : Path) → IsPath (name ∷ names) → parts (name ++ flat_map slashed names) ≡ name ∷ names
parts_of_names name [] h =
    ap parts (append-nil name) ∙ slice_split_none (λ b. b == slash) name (lacks name slash (All-head IsName name [] h).part.no_slash)
parts_of_names name (m ∷ ms) h =
    slice_split_at (λ b. b == slash) name slash (m ++ flat_map slashed ms) (lacks name slash (All-head IsName name (m ∷ ms) h).part.no_slash) refl
    ∙ ap (λ (ps : List (List ℕ)). name ∷ ps) (parts_of_names m ms (All-tail IsName name (m ∷ ms) h))

fold_names : (front names : Path) → IsPath names → fold with_part front names ≡ front ++ names
fold_names front [] h = sym (append-nil front)
fold_names front (name ∷ names) h =
    let one = All-head IsName name names h in
    rw (not_same name (codes "") one.not_empty, not_same name (codes ".") one.not_dot, not_same name (codes "..") one.not_dot_dot)
    (fold_names (front ++ name ∷ []) names (All-tail IsName name names h) ∙ append_assoc front (name ∷ []) names)

pub norm-text_of : (names : Path) → IsPath names → norm (text_of names) ≡ names
norm-text_of [] h = refl
norm-text_of (name ∷ names) h = ap (fold with_part []) (parts_of_names name names h) ∙ fold_names [] (name ∷ names) h

none_of_all : {X : Type 0} (p : X → Bool) (xs : List X) → All (λ x. p x ≡ false) xs → list_any p xs ≡ false
none_of_all p [] h = refl
none_of_all p (x ∷ xs) h = rw (All-head (λ x. p x ≡ false) x xs h) (none_of_all p xs (All-tail (λ x. p x ≡ false) x xs h))

no_zero_in_text : (names : Path) → IsPath names → list_any (λ b. b == 0) (flat_map slashed names) ≡ false
no_zero_in_text [] h = refl
no_zero_in_text (name ∷ names) h =
    rw (list_any-append (λ b. b == 0) name (flat_map slashed names), none_of_all (λ b. b == 0) name (lacks name 0 (All-head IsName name names h).part.no_zero))
    (no_zero_in_text names (All-tail IsName name names h))

no_long_part : (name : Name) (names : Path) → IsPath (name ∷ names) → list_any (λ part. nat_lt 255 (length part)) (parts (name ++ flat_map slashed names)) ≡ false
no_long_part name names h =
    ap (list_any (λ part. nat_lt 255 (length part))) (parts_of_names name names h)
    ∙ none_of_all (λ part. nat_lt 255 (length part)) (name ∷ names) (λ k d lt. le-ltb _ _ (h k d lt).part.short)

pub fault_of-text_of : (names : Path) → IsPath names → fault_of (text_of names) ≡ (if nat_lt 4096 (length (text_of names)) then Some TooLong else None)
fault_of-text_of [] h = refl
fault_of-text_of (name ∷ names) h = rw (no_long_part name names h, no_zero_in_text (name ∷ names) h) refl
