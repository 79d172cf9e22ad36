-- The values of a slab, up to their order.
use Rattle.std.proofs.Common.{◌≡◌, ℕ, zero, suc, List, [], ◌∷◌, Option, Some, None, is_some, count_by, length, set, get_or, cond, refl, sym, ap, ◌∙◌, subst, inl, inr, arith}
use Rattle.std.specs.Prelude.{filter_map, IsPermutation}
use Rattle.std.specs.List.{cons_option}
use Rattle.std.proofs.lemmas.Bool.{cases_eq}
use Rattle.std.proofs.lemmas.List.{get_or-set_same, get_or-set_other}
use Rattle.std.proofs.lemmas.List.Sums.{sum_by-cons}
use Rattle.std.proofs.lemmas.List.Sorted.{IsPermutation-refl, IsPermutation-sym, IsPermutation-trans, IsPermutation-cons, IsPermutation-middle}
use Rattle.slab.specs.Slab.{Slab, get, values, slab_len, Updates, with_value}
use Rattle.slab.proofs.SlabLemmas.{ContainsKey-within}

module _ {T : Type 0} where
  abbrev filled : List (Option T) → List T
  filled slots = filter_map (λ (slot : Option T). slot) slots

  same_filled : (xs ys : List (Option T)) → ((k : ℕ) → get_or xs k None ≡ get_or ys k None) → filled xs ≡ filled ys
  same_filled [] [] same = refl
  same_filled [] (y ∷ ys) same = subst (λ (o : Option T). [] ≡ filled (o ∷ ys)) (same 0) (same_filled [] ys (λ k. same (suc k)))
  same_filled (x ∷ xs) [] same = subst (λ (o : Option T). filled (o ∷ xs) ≡ []) (sym (same 0)) (same_filled xs [] (λ k. same (suc k)))
  same_filled (x ∷ xs) (y ∷ ys) same = ap (cons_option x) (same_filled xs ys (λ k. same (suc k))) ∙ ap (λ (o : Option T). cons_option o (filled ys)) (same 0)

  taken : (slots : List (Option T)) (key : ℕ) (x : T) → get_or slots key None ≡ Some x → IsPermutation (filled slots) (x ∷ filled (set slots key None))
  taken [] key x found = absurd (cc)
  taken (o ∷ slots) zero x found = subst (λ (p : Option T). IsPermutation (filled (p ∷ slots)) (x ∷ filled slots)) (sym found) (IsPermutation-refl (x ∷ filled slots))
  taken (None ∷ slots) (suc key) x found = taken slots key x found
  taken (Some y ∷ slots) (suc key) x found =
      IsPermutation-trans _ _ _ (IsPermutation-cons y _ _ (taken slots key x found)) (IsPermutation-middle (y ∷ []) x (filled (set slots key None)))

  -- a value is removed, or inserted
  pub removed : (s s' : Slab T) (key : ℕ) (x : T) → get s key ≡ Some x → s'.slots ≡ set s.slots key None → IsPermutation (values s) (x ∷ values s')
  removed s s' key x found left = subst (λ (l : List (Option T)). IsPermutation (values s) (x ∷ filled l)) (sym left) (taken s.slots key x found)

  pub inserted : (s s' : Slab T) (key : ℕ) (x : T) → get s key ≡ None → Updates s s' key (Some x) → IsPermutation (x ∷ values s) (values s')
  inserted s s' key x vacant updates =
      let within = ContainsKey-within s' key (rw updates.changed refl) in
      let rest : List (Option T) = set s'.slots key None in
      let same = same_filled rest s.slots (λ k. elim (cases_eq k key) [
        | inl is ↦ ap (λ (n : ℕ). get_or rest n None) is ∙ get_or-set_same s'.slots key None None within ∙ sym vacant ∙ ap (get s) (sym is)
        | inr other ↦ get_or-set_other s'.slots key k None None other ∙ updates.others k other
      ]) in
      IsPermutation-sym _ _ (subst (λ (l : List T). IsPermutation (values s') (x ∷ l)) same (taken s'.slots key x updates.changed))

  set_twice : (slots : List (Option T)) (key : ℕ) (a b : Option T) → set (set slots key a) key b ≡ set slots key b
  set_twice [] key a b = refl
  set_twice (o ∷ slots) zero a b = refl
  set_twice (o ∷ slots) (suc key) a b = ap (λ (l : List (Option T)). o ∷ l) (set_twice slots key a b)

  -- a value is replaced, and the others stay
  pub replaced : (s : Slab T) (key : ℕ) (x y : T) → get s key ≡ Some x → (others : List T) × IsPermutation (values s) (x ∷ others) × IsPermutation (y ∷ others) (values (with_value s key y))
  replaced s key x y found =
      let slots = set s.slots key (Some y) in
      let others = filled (set s.slots key None) in
      let found' = get_or-set_same s.slots key (Some y) None (ContainsKey-within s key (rw found refl)) in (
        others,
        taken s.slots key x found,
        IsPermutation-sym _ _ (subst (λ (l : List (Option T)). IsPermutation (filled slots) (y ∷ filled l)) (set_twice s.slots key (Some y) None) (taken slots key y found')),
      )

  -- and then it is removed
  pub replaced_and_removed : (s s' : Slab T) (key : ℕ) (x y : T) → get s key ≡ Some x → s'.slots ≡ set (set s.slots key (Some y)) key None → IsPermutation (values s) (x ∷ values s')
  replaced_and_removed s s' key x y found left = removed s s' key x found (left ∙ set_twice s.slots key (Some y) None)

  pub same_value : (s : Slab T) (key : ℕ) (x y z : T) → get s key ≡ Some x → get (with_value s key y) key ≡ Some z → z ≡ y
  same_value s key x y z found now = let put = get_or-set_same s.slots key (Some y) None (ContainsKey-within s key (rw found refl)) in cc

  length_filled : (slots : List (Option T)) → length (filled slots) ≡ count_by is_some slots
  length_filled [] = refl
  length_filled (None ∷ slots) = omega (arith, length_filled slots, sum_by-cons (λ (o : Option T). cond (is_some o) 1 0) None slots)
  length_filled (Some x ∷ slots) = omega (arith, length_filled slots, sum_by-cons (λ (o : Option T). cond (is_some o) 1 0) (Some x) slots)

  pub length_values : (s : Slab T) → length (values s) ≡ slab_len s
  length_values s = length_filled s.slots

  empty : (xs : List T) → length xs ≡ 0 → xs ≡ []
  empty [] none = refl
  empty (x ∷ xs) none = absurd (omega arith)

  pub no_values : (s : Slab T) → slab_len s ≡ 0 → values s ≡ []
  no_values s none = empty (values s) (length_values s ∙ none)
