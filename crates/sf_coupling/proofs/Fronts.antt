-- Laws of prefixes.
use Rattle.std.specs.Prelude.{◌≡◌, ◌⊎◌, [], ◌∷◌, ◌++◌, refl}
use Rattle.std.proofs.Common.{sym, ap, ◌∙◌, append_assoc, append-nil, inl, inr}
use Rattle.sf_path.specs.Names.{Name, Path}
use Rattle.sf_coupling.specs.Fronts.{IsPrefix}

pub begins_itself : (p : Path) → IsPrefix p p
begins_itself p = record { rest = []; is = sym (append-nil p) }

pub begins_root : (p : Path) → IsPrefix [] p
begins_root p = record { rest = p; is = refl }

pub begins_trans : (p q s : Path) → IsPrefix p q → IsPrefix q s → IsPrefix p s
begins_trans p q s b d = record { rest = b.rest ++ d.rest; is = d.is ∙ (ap (λ (l : Path). l ++ d.rest) b.is ∙ append_assoc p b.rest d.rest) }

pub begins_cons : (a b : Name) (p q : Path) → a ≡ b → IsPrefix p q → IsPrefix (a ∷ p) (b ∷ q)
begins_cons a b p q e d = record { rest = d.rest; is = λ i. sym e i ∷ d.is i }

-- one more name: a prefix of it is a prefix of the rest, or is all of it
pub begins_snoc : (p q : Path) (n : Name) → IsPrefix p (q ++ n ∷ []) → IsPrefix p q ⊎ (p ≡ q ++ n ∷ [])
begins_snoc [] q n b = inl (begins_root q)
begins_snoc (a ∷ []) [] n b = let e = b.is in let h : n ≡ a = cc in inr (λ i. sym h i ∷ [])
begins_snoc (a ∷ c ∷ p) [] n b = let e = b.is in absurd (cc)
begins_snoc (a ∷ p) (m ∷ q) n b =
    let e = b.is in
    let h : m ≡ a = cc in
    let t : q ++ n ∷ [] ≡ p ++ b.rest = cc in
    elim (begins_snoc p q n (record { rest = b.rest; is = t })) [
      | inl d ↦ inl (begins_cons a m p q (sym h) d)
      | inr d ↦ inr (λ i. sym h i ∷ d i)
    ]

-- of two prefixes of one path, one is a prefix of the other
pub fronts_meet : (p q s : Path) → IsPrefix p s → IsPrefix q s → IsPrefix p q ⊎ IsPrefix q p
fronts_meet [] q s b d = inl (begins_root q)
fronts_meet (a ∷ p) [] s b d = inr (begins_root (a ∷ p))
fronts_meet (a ∷ p) (m ∷ q) s b d =
    let e = b.is in
    let f = d.is in
    let same : (a ∷ (p ++ b.rest)) ≡ (m ∷ (q ++ d.rest)) = sym e ∙ f in
    let h : a ≡ m = cc in
    let t : p ++ b.rest ≡ q ++ d.rest = cc in
    elim (fronts_meet p q (q ++ d.rest) (record { rest = b.rest; is = sym t }) (record { rest = d.rest; is = refl })) [
      | inl x ↦ inl (begins_cons a m p q h x)
      | inr x ↦ inr (begins_cons m a q p (sym h) x)
    ]

pub begins_nothing : (p : Path) → IsPrefix p [] → p ≡ []
begins_nothing [] b = refl
begins_nothing (a ∷ p) b = let e = b.is in absurd (cc)

-- two paths that are prefixes of each other are equal
pub begins_both : (p q : Path) → IsPrefix p q → IsPrefix q p → p ≡ q
begins_both [] q b d = sym (begins_nothing q d)
begins_both (a ∷ p) [] b d = begins_nothing (a ∷ p) b
begins_both (a ∷ p) (m ∷ q) b d =
    let e = b.is in
    let f = d.is in
    let h : m ≡ a = cc in
    let x : q ≡ p ++ b.rest = cc in
    let y : p ≡ q ++ d.rest = cc in
    let z = begins_both p q (record { rest = b.rest; is = x }) (record { rest = d.rest; is = y }) in
    λ i. sym h i ∷ z i
