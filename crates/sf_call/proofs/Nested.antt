-- One path is a prefix of another if all of its names are equal to the other's.
use Rattle.std.proofs.Common.{◌≡◌, ◌≢◌, ℕ, ◌<◌, ◌≤◌, Bool, true, false, eqb, [], ◌++◌, length, take, drop, Option, Some, None, is_some, refl, sym, ap, ◌∙◌, inl, inr, arith, length-append}
use Rattle.std.specs.Prelude.{slice_get}
use Rattle.std.proofs.lemmas.Bool.{cases_lt, eqb-true, eq-eqb}
use Rattle.std.proofs.lemmas.List.{take-append-drop, take_all, get_or_append_left}
use Rattle.std.proofs.lemmas.Option.{slice_get-get_or}
use Rattle.sf_path.specs.Names.{Path}
use Rattle.sf_call.specs.Tree.{after_front}
use Rattle.sf_call.proofs.MovedNames.{after_front-append, append-after_front}

-- the number of equal names at the start of two paths
pub record AreAlike (front path : Path) (n : ℕ) : Type 0 where
  pub alike : take n front ≡ take n path
  pub within : n ≤ length front
  pub longest : n < length front → n < length path → slice_get front n ≢ slice_get path n

eqb_less : (n m : ℕ) → n < m → (b : Bool) → eqb n m ≡ b → b ≡ false
eqb_less n m less true e = absurd (omega (arith, less, eqb-true n m e))
eqb_less n m less false e = refl

whole : (front path : Path) (n : ℕ) → AreAlike front path n → length front ≤ n → is_some (after_front front path) ≡ true
whole front path n are all =
    let own : take n front ≡ front = take_all n front all in
    let is : path ≡ front ++ drop n path = sym (take-append-drop n path) ∙ ap (λ (p : Path). p ++ drop n path) (sym are.alike ∙ own) in
    ap (λ (p : Path). is_some (after_front front p)) is ∙ ap (λ (o : Option Path). is_some o) (after_front-append front (drop n path))

no_front : (front path rest : Path) (n : ℕ) → AreAlike front path n → n < length front → path ≡ front ++ rest → ⊥
no_front front path rest n are less is =
    let long : n < length path = omega (arith, less, ap length is, length-append front rest) in
    are.longest less long (slice_get-get_or front n [] less ∙ ap Some (sym (get_or_append_left front rest [] n less)) ∙ sym (ap (λ (p : Path). slice_get p n) is ∙ slice_get-get_or (front ++ rest) n [] (omega (arith, less, length-append front rest))))

short : (front path : Path) (n : ℕ) → AreAlike front path n → n < length front → (o : Option Path) → after_front front path ≡ o → is_some o ≡ false
short front path n are less None e = refl
short front path n are less (Some rest) e = absurd (no_front front path rest n are less (append-after_front front path rest e))

pub begins_where : (front path : Path) (n : ℕ) → AreAlike front path n → eqb n (length front) ≡ is_some (after_front front path)
begins_where front path n are = elim (cases_lt n (length front)) [
  | inl less ↦ eqb_less n (length front) less (eqb n (length front)) refl ∙ sym (short front path n are less (after_front front path) refl)
  | inr all ↦ eq-eqb n (length front) (omega (arith, are.within, all)) ∙ sym (whole front path n are all)
]
