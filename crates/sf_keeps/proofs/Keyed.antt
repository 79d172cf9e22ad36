-- Lists of entries in key order: lookups after each change, and filters.
use Rattle.std.specs.Prelude.{◌≡◌, Bool, true, false, cond, T, ◌||◌, List, [], ◌∷◌, Some, None, IsSome, refl}
use Rattle.std.proofs.Common.{sym, ap, ◌∙◌, inl, inr}
use Rattle.std.proofs.lemmas.Bool.{cases_Bool, cond-true, cond-false, or_left, or_right}
use Rattle.std.specs.List.{list_any, IsDistinct, AllByRecursion}
use Rattle.std.specs.Ordering.{is_eq, eq_by_cmp}
use Rattle.std.specs.declared.cmp.Ordering.{Ordering}
use Rattle.std.specs.Cmp.{IsTotalOrder, tied_itself, eq_by_cmp_equiv}
use Rattle.std.specs.Map.{lookup, remove_entry, set_value, keys_of}
use Rattle.std.specs.BTreeMap.{is_at}
use Rattle.std.specs.FinMap.{is_sorted}
use Rattle.std.specs.FinMap.Entries.{below_all}
use Rattle.sf_call.proofs.Laws.{and_first, and_second, is_equal, not_at, lookup_below}
use Rattle.std.proofs.lemmas.Map.{lookup-set_value, lookup-remove_entry}
use Rattle.sf_keeps.proofs.Through.{by_test}

tied_alike : {K : Type 0} {R : K → K → Ordering} → IsTotalOrder R → (k x y : K) → is_at (R k) x ≡ true → is_at (R k) y ≡ eq_by_cmp R x y
tied_alike {R = R} o k x y t = ap is_eq (o.congr k x y (is_equal (R k x) t))

module _ {K X : Type 0} where
  -- without an entry that does not pass, the same number pass
  pub any-removed : (f : X → Bool) (test : K → Bool) (es : List (K × X)) (v : X) → lookup test es ≡ Some v → f v ≡ false → list_any (λ e. f e.1) (remove_entry test es) ≡ list_any (λ e. f e.1) es
  any-removed f test [] v l t = refl
  any-removed f test (e ∷ es) v l t =
      elim (by_test (test e.0) l) [
        | inl a ↦ let w : v ≡ e.1 = cc in rw a.0 (ap (λ b. b || list_any (λ e. f e.1) es) (sym t ∙ ap f w))
        | inr a ↦ rw a.0 (ap (λ b. f e.1 || b) (any-removed f test es v a.1 t))
      ]

module _ {K X : Type 0} (R : K → K → Ordering) where
  pub any_lookup : (f : X → Bool) (es : List (K × X)) (q : K) (v : X) → lookup (is_at (R q)) es ≡ Some v → f v ≡ true → list_any (λ e. f e.1) es ≡ true
  any_lookup f [] q v l t = cc
  any_lookup f (e ∷ es) q v l t =
      elim (by_test (is_at (R q) e.0) l) [
        | inl a ↦ let w : e.1 ≡ v = cc in or_left (f e.1) (list_any (λ e. f e.1) es) (ap f w ∙ t)
        | inr a ↦ or_right (f e.1) (list_any (λ e. f e.1) es) (any_lookup f es q v a.1 t)
      ]

  module _ (o : IsTotalOrder R) where
    pub lookup-set : (es : List (K × X)) (k : K) (v : X) (q : K) → IsSome (lookup (is_at (R k)) es) → lookup (is_at (R q)) (set_value (is_at (R k)) es v) ≡ cond (is_at (R k) q) (Some v) (lookup (is_at (R q)) es)
    lookup-set es k v q h = lookup-set_value (eq_by_cmp_equiv o) (is_at (R k)) (tied_alike o k) q v es h

    apart : (x : K) (es : List (K × X)) → T (below_all R x es) → AllByRecursion (λ y. eq_by_cmp R x y ≡ false) (keys_of es)
    apart x [] h = tt
    apart x (e ∷ es) h = (not_at _ (and_first _ _ h), apart x es (and_second _ _ h))

    pub distinct : (es : List (K × X)) → T (is_sorted R es) → IsDistinct (eq_by_cmp R) (keys_of es)
    unfolding IsDistinct
    distinct [] h = tt
    distinct (e ∷ es) h = (apart e.0 es (and_first _ _ h), distinct es (and_second _ _ h))

    pub lookup-removed : (es : List (K × X)) (k q : K) → T (is_sorted R es) → lookup (is_at (R q)) (remove_entry (is_at (R k)) es) ≡ cond (is_at (R k) q) None (lookup (is_at (R q)) es)
    lookup-removed es k q h = lookup-remove_entry (eq_by_cmp_equiv o) (is_at (R k)) (tied_alike o k) q es (distinct es h)

    -- an entry found further on is found
    pub found_on : (e : K × X) (es : List (K × X)) → T (is_sorted R (e ∷ es)) → (q : K) (v : X) → lookup (is_at (R q)) es ≡ Some v → lookup (is_at (R q)) (e ∷ es) ≡ Some v
    found_on e es h q v l = elim (cases_Bool (is_at (R q) e.0)) [
      | inl at ↦ let none = lookup_below R o q e.0 es (is_equal (R q e.0) at) (and_first (below_all R e.0 es) (is_sorted R es) h) in cc
      | inr at ↦ cond-false _ _ _ at ∙ l
    ]

    pub lookup_any : (f : X → Bool) (es : List (K × X)) → T (is_sorted R es) → list_any (λ e. f e.1) es ≡ true → (q : K) × (v : X) × (lookup (is_at (R q)) es ≡ Some v) × (f v ≡ true)
    lookup_any f [] h t = cc
    lookup_any f (e ∷ es) h t =
        elim (cases_Bool (f e.1)) [
          | inl p ↦ (e.0, e.1, cond-true _ _ _ (ap is_eq (tied_itself o e.0)), p)
          | inr p ↦
              let found = lookup_any f es (and_second (below_all R e.0 es) (is_sorted R es) h) (sym (ap (λ b. b || list_any (λ e. f e.1) es) p) ∙ t) in
              (found.0, found.1, found_on e es h found.0 found.1 found.2, found.3)
        ]
