-- If each directory has at most one entry, at most one path leads to it.
use Rattle.std.specs.Prelude.{◌≡◌, ℕ, true, [], ◌∷◌, reverse, option_and_then, Option, Some, None, refl}
use Rattle.std.proofs.Common.{sym, ap, ◌∙◌}
use Rattle.std.proofs.lemmas.List.{reverse-append, reverse-reverse}
use Rattle.sf_path.specs.Names.{Path}
use Rattle.sf_keeps.specs.Steps.{EntryMap, walk}
use Rattle.sf_keeps.specs.Shows.{Shown, IsSound, is_directory_by}
use Rattle.sf_keeps.proofs.Through.{found_through}
use Rattle.sf_keeps.proofs.Walks.{LeadsOnce, walk-append, to_it}

-- path resolution by the last name
abbrev pub back : EntryMap → ℕ → Path → Option ℕ
back step x [] = Some x
back step x (n ∷ p) = option_and_then (λ y. step y n) (back step x p)

pub back_is : (step : EntryMap) (x : ℕ) (p : Path) → walk step x (reverse p) ≡ back step x p
back_is step x [] = refl
back_is step x (n ∷ p) =
    ap (walk step x) (reverse-append (n ∷ []) p) ∙ walk-append step x (reverse p) (n ∷ []) ∙ ap (option_and_then (λ y. option_and_then (λ z. Some z) (step y n))) (back_is step x p)
    ∙ elim (back step x p) as (λ o. option_and_then (λ y. option_and_then (λ z. Some z) (step y n)) o ≡ option_and_then (λ y. step y n) o) [ None ↦ refl | Some y ↦ to_it (step y n) ]

module _ (step : EntryMap) (shown : Shown) (root : ℕ) (sound : IsSound step shown root) where
  back_once : (p q : Path) (x : ℕ) → is_directory_by shown x ≡ true → back step root p ≡ Some x → back step root q ≡ Some x → p ≡ q
  back_once [] [] x d hp hq = refl
  back_once [] (m ∷ q) x d hp hq = let z = found_through (back step root q) hq in absurd (sound.top z.0 m (z.2 ∙ sym hp))
  back_once (n ∷ p) [] x d hp hq = let z = found_through (back step root p) hp in absurd (sound.top z.0 n (z.2 ∙ sym hq))
  back_once (n ∷ p) (m ∷ q) x d hp hq =
      let y = found_through (back step root p) hp in
      let z = found_through (back step root q) hq in
      let same = sound.one y.0 z.0 x n m d y.2 z.2 in
      let tail = back_once p q y.0 (sound.owns y.0 x n y.2) y.1 (z.1 ∙ ap Some (sym same.0)) in
      λ i. same.1 i ∷ tail i

  to_back : (p : Path) (x : ℕ) → walk step root p ≡ Some x → back step root (reverse p) ≡ Some x
  to_back p x h = sym (back_is step root (reverse p)) ∙ ap (walk step root) (reverse-reverse p) ∙ h

  directory_once : (p q : Path) (x : ℕ) → is_directory_by shown x ≡ true → walk step root p ≡ Some x → walk step root q ≡ Some x → p ≡ q
  directory_once p q x d hp hq =
      sym (reverse-reverse p) ∙ ap (λ (l : Path). reverse l) (back_once (reverse p) (reverse q) x d (to_back p x hp) (to_back q x hq)) ∙ reverse-reverse q

  -- no other path leads to a directory
  pub leads_once : (p : Path) (x : ℕ) → is_directory_by shown x ≡ true → walk step root p ≡ Some x → LeadsOnce step root p x
  leads_once p x d hp q hq = directory_once q p x d hq hp
