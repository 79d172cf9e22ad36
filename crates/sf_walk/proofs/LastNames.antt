-- The last name of a path, and the path of its parent.
use Rattle.std.specs.Prelude.{◌≡◌, ◌↔◌, ℕ, ◌-◌, Bool, true, false, IsTrue, [], ◌∷◌, ◌++◌, length, take, Some, slice_index_or, slice_get, refl}
use Rattle.std.proofs.lemmas.Option.{get_or_from_slice_get}
use Rattle.std.proofs.Common.{sym, ap, ◌∙◌, arith, length-append}
use Rattle.sf_path.specs.Names.{Name, Path}
use Rattle.sf_path.specs.Order.{parent}
use Rattle.sf_walk.specs.Ways.{last_name_of}

at_end : (r : Path) (n : Name) → slice_index_or (r ++ n ∷ []) (length r) [] ≡ n
at_end [] n = refl
at_end (m ∷ r) n = at_end r n

less_one : (r : Path) (n : Name) → length (r ++ n ∷ []) - 1 ≡ length r
less_one r n = omega (arith, length-append r (n ∷ []))

pub last_is : (r : Path) (n : Name) → last_name_of (r ++ n ∷ []) ≡ n
last_is r n = ap (λ k. slice_index_or (r ++ n ∷ []) k []) (less_one r n) ∙ at_end r n

pub last_name : (p : Path) (i : ℕ) (n : Name) → slice_get p (i - 1) ≡ Some n → i ≡ length p → n ≡ last_name_of p
last_name p i n at e = sym (get_or_from_slice_get p (i - 1) n [] at) ∙ ap (λ k. slice_index_or p (k - 1) []) e

take_front : (r : Path) (n : Name) → take (length r) (r ++ n ∷ []) ≡ r
take_front [] n = refl
take_front (m ∷ r) n = ap (λ (q : Path). m ∷ q) (take_front r n)

pub parent_is : (r : Path) (n : Name) → parent (r ++ n ∷ []) ≡ r
parent_is r n = ap (λ k. take k (r ++ n ∷ [])) (less_one r n) ∙ take_front r n

pub not_root : (b : Bool) (p : Path) → (IsTrue b ↔ (p ≡ [])) → b ≡ false → p ≡ [] → ⊥
not_root b p h f e = let t : b ≡ true = h.1 e in cc
