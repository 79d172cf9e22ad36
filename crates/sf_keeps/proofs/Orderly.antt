-- Lists of entries in key order: lists with equal lookups are equal, and other values keep the
-- order.
use Rattle.std.specs.Prelude.{◌≡◌, T, ◌&&◌, List, [], ◌∷◌, map, refl}
use Rattle.std.proofs.Common.{sym, ap, subst, ◌∙◌}
use Rattle.std.specs.declared.cmp.Ordering.{Ordering}
use Rattle.std.specs.Ordering.{is_lt}
use Rattle.std.specs.Cmp.{IsTotalOrder}
use Rattle.std.specs.Map.{lookup}
use Rattle.std.specs.BTreeMap.{is_at}
use Rattle.std.specs.FinMap.{is_sorted, IsAntisymmetric}
use Rattle.std.specs.FinMap.Entries as entries
use Rattle.std.specs.FinMap.Entries.{below_all}
use Rattle.sf_call.proofs.Laws.{find_is}

module _ {K X : Type 0} (R : K → K → Ordering) where
  -- ordered lists of entries with equal lookups are equal
  pub same_sorted : IsTotalOrder R → IsAntisymmetric R → (es fs : List (K × X)) → T (is_sorted R es) → T (is_sorted R fs) → ((q : K) → lookup (is_at (R q)) es ≡ lookup (is_at (R q)) fs) → es ≡ fs
  same_sorted o exact es fs s t same = entries.same_entries R o exact es fs s t (λ q. sym (find_is R es q) ∙ same q ∙ find_is R fs q)

-- with other values
module _ {K X Y : Type 0} (R : K → K → Ordering) (f : X → Y) where
  below_mapped : (x : K) (es : List (K × X)) → below_all R x (map (λ e. (e.0, f e.1)) es) ≡ below_all R x es
  below_mapped x [] = refl
  below_mapped x (e ∷ es) = ap (λ b. is_lt (R x e.0) && b) (below_mapped x es)

  sorted_same : (es : List (K × X)) → is_sorted R (map (λ e. (e.0, f e.1)) es) ≡ is_sorted R es
  sorted_same [] = refl
  sorted_same (e ∷ es) = λ i. below_mapped e.0 es i && sorted_same es i

  pub sorted_mapped : (es : List (K × X)) → T (is_sorted R es) → T (is_sorted R (map (λ e. (e.0, f e.1)) es))
  sorted_mapped es h = subst (λ b. T b) (sym (sorted_same es)) h
