-- An insertion at an absent key and its removal restore the map.
use Rattle.std.proofs.Common.{◌≡◌, Bool, true, false, cond, refl, sym, ap, ◌∙◌, Some, None, Option, List, [], ◌∷◌}
use Rattle.std.specs.BTreeMap.{BTreeMap, get, is_at, IsOrdered}
use Rattle.std.specs.declared.cmp.Ordering.{Ordering}
use Rattle.std.specs.declared.cmp.Ordering.TheVariants.{Less, Equal, Greater}
use Rattle.std.specs.Cmp.{IsTotalOrder}
use Rattle.std.specs.Ordering.{is_eq}
use Rattle.std.specs.Map.{lookup, set_value}
use Rattle.std.proofs.lemmas.Map.Lookups.{CmpEqualImpliesEq, btree_map_from_get}
use Rattle.std.specs.FinMap.{nat_cmp-IsAntisymmetric, slice_cmp-IsAntisymmetric}
use Rattle.sf_path.specs.Order.{path_cmp}
use Rattle.sf_call.specs.Tree.{Tree}

-- paths that compare equal are equal
pub exact_paths : CmpEqualImpliesEq path_cmp
exact_paths = slice_cmp-IsAntisymmetric (slice_cmp-IsAntisymmetric nat_cmp-IsAntisymmetric)

module _ {K X : Type 0} {R : K → K → Ordering} where
  nothing_there : (f : K → Option X) (k q : K) (v : X) → CmpEqualImpliesEq R → f k ≡ None → (r : Ordering) → R k q ≡ r → cond (is_eq r) None (cond (is_eq r) (Some v) (f q)) ≡ f q
  nothing_there f k q v exact free Less e = refl
  nothing_there f k q v exact free Equal e = sym free ∙ ap f (exact k q e)
  nothing_there f k q v exact free Greater e = refl

  pub undone : IsTotalOrder R → CmpEqualImpliesEq R → (m n r : BTreeMap K X) (k : K) (v : X) → IsOrdered R m → IsOrdered R r → get R m k ≡ None
      → ((q : K) → get R n q ≡ cond (is_at (R k) q) (Some v) (get R m q)) → ((q : K) → get R r q ≡ cond (is_at (R k) q) None (get R n q)) → r.entries ≡ m.entries
  undone o exact m n r k v sm sr free put gone =
      btree_map_from_get o r m sr sm (λ q. gone q ∙ ap (cond (is_at (R k) q) None) (put q) ∙ nothing_there (get R m) k q v exact free (R k q) refl) exact

module _ {K X : Type 0} {R : K → K → Ordering} where
  back_there : (f : K → Option X) (k q : K) (v : X) (o : Option X) → CmpEqualImpliesEq R → f k ≡ o → (r : Ordering) → R k q ≡ r → cond (is_eq r) o (cond (is_eq r) (Some v) (f q)) ≡ f q
  back_there f k q v o exact was Less e = refl
  back_there f k q v o exact was Equal e = sym was ∙ ap f (exact k q e)
  back_there f k q v o exact was Greater e = refl

  -- an insertion at a key that is undone
  pub put_back : IsTotalOrder R → CmpEqualImpliesEq R → (m n r : BTreeMap K X) (k : K) (v : X) (o : Option X) → IsOrdered R m → IsOrdered R r → get R m k ≡ o
      → ((q : K) → get R n q ≡ cond (is_at (R k) q) (Some v) (get R m q)) → ((q : K) → get R r q ≡ cond (is_at (R k) q) o (get R n q)) → r.entries ≡ m.entries
  put_back total exact m n r k v o sm sr was put back =
      btree_map_from_get total r m sr sm (λ q. back q ∙ ap (cond (is_at (R k) q) o) (put q) ∙ back_there (get R m) k q v o exact was (R k q) refl) exact

-- trees with equal maps are equal
pub same_tree : (s t : Tree) → s.names ≡ t.names → s.objects ≡ t.objects → s.handles ≡ t.handles → s ≡ t
same_tree s t n o h = λ i. record { names = n i; objects = o i; handles = h i }

-- setting an absent key changes nothing
pub set_nowhere : {K X : Type 0} (test : K → Bool) (es : List (K × X)) (v : X) → lookup test es ≡ None → set_value test es v ≡ es
set_nowhere test [] v none = refl
set_nowhere test (e ∷ es) v none =
    elim (test e.0) as (λ b. cond b (Some e.1) (lookup test es) ≡ None → cond b ((e.0, v) ∷ es) (e ∷ set_value test es v) ≡ e ∷ es) [
      | true ↦ λ some. cc
      | false ↦ λ gone. ap (λ fs. e ∷ fs) (set_nowhere test es v gone)
    ] none
