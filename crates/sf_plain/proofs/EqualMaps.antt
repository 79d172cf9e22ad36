-- A map that is copied entry by entry, in the order of its keys.
use Rattle.std.proofs.Common.{◌≡◌, List, [], ◌∷◌, ◌++◌, refl, sym, ap, ◌∙◌, subst, append_assoc}
use Rattle.std.specs.List.{AllByRecursion}
use Rattle.std.specs.List.Sorted.{IsStrictlySortedBy}
use Rattle.std.specs.declared.cmp.Ordering.{Ordering}
use Rattle.std.specs.declared.cmp.Ordering.TheVariants.{Less, Greater}
use Rattle.std.specs.Ordering.{match_ordering, ordering_reverse}
use Rattle.std.specs.Cmp.{IsTotalOrder}
use Rattle.std.specs.Map.{keys_of}
use Rattle.std.specs.BTreeMap.{insert_entry}

module _ {K X : Type 0} (R : K → K → Ordering) where
  last_above : (x : K) (es rest : List (K × X)) (k : K) (v : X) → AllByRecursion (λ y. R x y ≡ Less) (keys_of (es ++ (k, v) ∷ rest)) → R x k ≡ Less
  last_above x [] rest k v all = all.0
  last_above x (e ∷ es) rest k v all = last_above x es rest k v all.1

  -- a key above all is inserted at the end
  at_end : IsTotalOrder R → (es rest : List (K × X)) (k : K) (v : X) → IsStrictlySortedBy R (keys_of (es ++ (k, v) ∷ rest)) → insert_entry R es k v ≡ es ++ (k, v) ∷ []
  unfolding IsStrictlySortedBy
  at_end o [] rest k v sorted = refl
  at_end o (e ∷ es) rest k v sorted =
      let above : R k e.0 ≡ Greater = o.antisymm k e.0 ∙ ap ordering_reverse (last_above e.0 es rest k v sorted.0) in
      ap (λ r. match_ordering r ((k, v) ∷ e ∷ es) ((e.0, v) ∷ es) (e ∷ insert_entry R es k v)) above
      ∙ ap (λ (fs : List (K × X)). e ∷ fs) (at_end o es rest k v sorted.1)

  -- one more entry is copied
  pub copied : IsTotalOrder R → (all copy next left rest : List (K × X)) (j k : K) (v w : X) → IsStrictlySortedBy R (keys_of all) → copy ++ left ≡ all → left ≡ (k, v) ∷ rest
      → next ≡ insert_entry R copy j w → j ≡ k → w ≡ v → next ++ rest ≡ all
  copied o all copy next left rest j k v w sorted so_far more put same_key same_value =
      let whole : copy ++ (k, v) ∷ rest ≡ all = ap (λ (l : List (K × X)). copy ++ l) (sym more) ∙ so_far in
      let ordered = subst (λ (es : List (K × X)). IsStrictlySortedBy R (keys_of es)) (sym whole) sorted in
      let at_last : next ≡ copy ++ (k, v) ∷ [] = put ∙ ap (λ q. insert_entry R copy q w) same_key ∙ ap (insert_entry R copy k) same_value ∙ at_end o copy rest k v ordered in
      ap (λ (es : List (K × X)). es ++ rest) at_last ∙ append_assoc copy ((k, v) ∷ []) rest ∙ whole
