-- The components of a text without a fault, and the path that they make.
use Rattle.std.proofs.Common.{◌≡◌, ◌≢◌, ℕ, ◌<◌, ◌-◌, Bool, true, false, cond, ◌==◌, ◌||◌, List, [], ◌∷◌, ◌++◌, length, take, Some, None, refl, sym}
use Rattle.std.specs.Prelude.{fold, nat_lt, All, codes, bytes_eq}
use Rattle.std.specs.List.{onto_first, list_any}
use Rattle.std.specs.Cmp.Lexicographic.{other_text}
use Rattle.std.proofs.lemmas.Bool.{ltb-false, eqb-false}
use Rattle.std.proofs.lemmas.List.Elements.{All-nil, All-cons, All-head, All-tail, All-push, All-take}
use Rattle.sf_path.specs.Names.{Path, IsPart, IsName, IsPath, slash}
use Rattle.sf_path.specs.Normal.{parts, with_part, norm, fault_of}

or_false : (a b : Bool) → (a || b) ≡ false → (a ≡ false) × (b ≡ false)
or_false true b e = absurd cc
or_false false b e = (refl, e)

none_passes : {X : Type 0} (p : X → Bool) (xs : List X) → list_any p xs ≡ false → All (λ x. p x ≡ false) xs
none_passes p [] e = All-nil (λ x. p x ≡ false)
none_passes p (x ∷ xs) e =
    let both = or_false (p x) (list_any p xs) e in
    All-cons (λ x. p x ≡ false) x xs both.0 (none_passes p xs both.1)

-- a byte that may occur in a component
record IsPartByte (b : ℕ) : Type 0 where
  pub byte : b < 256
  pub no_slash : b ≢ slash
  pub no_zero : b ≢ 0

onto_first_kept : (x : ℕ) (ps : List (List ℕ)) → IsPartByte x → All (All IsPartByte) ps → All (All IsPartByte) (onto_first x ps)
onto_first_kept x [] h all = All-cons (All IsPartByte) (x ∷ []) [] (All-cons IsPartByte x [] h (All-nil IsPartByte)) all
onto_first_kept x (p ∷ ps) h all =
    All-cons (All IsPartByte) (x ∷ p) ps (All-cons IsPartByte x p h (All-head (All IsPartByte) p ps all)) (All-tail (All IsPartByte) p ps all)

part_bytes_step : (x : ℕ) (is_slash : Bool) (ps : List (List ℕ)) → (x == slash) ≡ is_slash → x < 256 → x ≢ 0 → All (All IsPartByte) ps
    → All (All IsPartByte) (cond is_slash ([] ∷ ps) (onto_first x ps))
part_bytes_step x true ps e byte nonzero all = All-cons (All IsPartByte) [] ps (All-nil IsPartByte) all
part_bytes_step x false ps e byte nonzero all = onto_first_kept x ps (record { byte = byte; no_slash = eqb-false x slash e; no_zero = nonzero }) all

part_bytes : (text : List ℕ) → All (λ b. b < 256) text → list_any (λ b. b == 0) text ≡ false → All (All IsPartByte) (parts text)
part_bytes [] bytes e = All-cons (All IsPartByte) [] [] (All-nil IsPartByte) (All-nil (All IsPartByte))
part_bytes (x ∷ xs) bytes e =
    let both = or_false (x == 0) (list_any (λ b. b == 0) xs) e in
    part_bytes_step x (x == slash) (parts xs) refl (All-head (λ b. b < 256) x xs bytes) (eqb-false x 0 both.0) (part_bytes xs (All-tail (λ b. b < 256) x xs bytes) both.1)

no_fault : {A : Type 0} (long name null : Bool) (a b c : A) → cond long (Some a) (cond name (Some b) (cond null (Some c) None)) ≡ None → (name ≡ false) × (null ≡ false)
no_fault true name null a b c e = absurd cc
no_fault false true null a b c e = absurd cc
no_fault false false true a b c e = absurd cc
no_fault false false false a b c e = (refl, refl)

pub are_parts : (text : List ℕ) → All (λ b. b < 256) text → fault_of text ≡ None → All IsPart (parts text)
are_parts text bytes e =
    let clean = no_fault _ _ _ _ _ _ e in
    let short = none_passes (λ part. nat_lt 255 (length part)) (parts text) clean.0 in
    let all = part_bytes text bytes clean.1 in
    λ k d lt. record {
      short = ltb-false _ _ (short k d lt);
      bytes = λ i b here. (all k d lt i b here).byte;
      no_slash = λ w. (all k d lt w.0 slash w.1).no_slash w.2;
      no_zero = λ w. (all k d lt w.0 0 w.1).no_zero w.2;
    }

step_kept : {part : List ℕ} (path : Path) (empty dot up : Bool) → IsPath path → IsPart part → bytes_eq part (codes "") ≡ empty → bytes_eq part (codes ".") ≡ dot → bytes_eq part (codes "..") ≡ up
    → IsPath (cond (empty || dot) path (cond up (take (length path - 1) path) (path ++ part ∷ [])))
step_kept path true dot up h p e f g = h
step_kept path false true up h p e f g = h
step_kept path false false true h p e f g = All-take IsName (length path - 1) path h
step_kept {part} path false false false h p e f g =
    All-push IsName path part h (record { part = p; not_empty = other_text part [] (sym e); not_dot = other_text part (codes ".") (sym f); not_dot_dot = other_text part (codes "..") (sym g) })

fold_kept : (path : Path) (ps : List (List ℕ)) → IsPath path → All IsPart ps → IsPath (fold with_part path ps)
fold_kept path [] h all = h
fold_kept path (p ∷ ps) h all = fold_kept (with_part path p) ps (step_kept path _ _ _ h (All-head IsPart p ps all) refl refl refl) (All-tail IsPart p ps all)

pub norm_is_path : (text : List ℕ) → All (λ b. b < 256) text → fault_of text ≡ None → IsPath (norm text)
norm_is_path text bytes e = fold_kept [] (parts text) (All-nil IsName) (are_parts text bytes e)
