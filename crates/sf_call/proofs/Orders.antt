-- Ordered lists of entries with equal lookups are equal.
use Rattle.std.proofs.Common.{◌≡◌, T, cond, List, [], ◌∷◌, Some, refl, sym, ap, ◌∙◌}
use Rattle.std.specs.declared.cmp.Ordering.{Ordering}
use Rattle.std.specs.Cmp.{IsTotalOrder, nat_cmp_total}
use Rattle.std.specs.Map.{lookup}
use Rattle.std.specs.BTreeMap.{is_at}
use Rattle.std.specs.FinMap.{IsAntisymmetric, nat_cmp-IsAntisymmetric, slice_cmp-IsAntisymmetric, find, is_sorted}
use Rattle.std.specs.FinMap.Entries as entries
use Rattle.sf_path.specs.Order.{name_cmp, path_cmp, path_total}
use Rattle.sf_call.specs.Tree.{Tree, IsOrderedTree, MapsAlike}

-- names and paths that compare equal are equal
pub exact_names : IsAntisymmetric name_cmp
exact_names = slice_cmp-IsAntisymmetric nat_cmp-IsAntisymmetric

pub exact_paths : IsAntisymmetric path_cmp
exact_paths = slice_cmp-IsAntisymmetric exact_names

pub find_is : {K X : Type 0} (R : K → K → Ordering) (es : List (K × X)) (q : K) → lookup (is_at (R q)) es ≡ find R q es
find_is R [] q = refl
find_is R (e ∷ es) q = ap (cond (is_at (R q) e.0) (Some e.1)) (find_is R es q)

pub same_entries : {K X : Type 0} {R : K → K → Ordering} → IsTotalOrder R → IsAntisymmetric R → (es fs : List (K × X)) → T (is_sorted R es) → T (is_sorted R fs)
    → ((q : K) → lookup (is_at (R q)) es ≡ lookup (is_at (R q)) fs) → es ≡ fs
same_entries {R = R} o exact es fs s t same = entries.same_entries R o exact es fs s t (λ q. sym (find_is R es q) ∙ same q ∙ find_is R fs q)

pub same_tree : (s t : Tree) → IsOrderedTree s → IsOrderedTree t → MapsAlike s t → s ≡ t
same_tree s t os ot alike =
    let names = same_entries path_total exact_paths s.names t.names os.names ot.names alike.names in
    let objects = same_entries nat_cmp_total nat_cmp-IsAntisymmetric s.objects t.objects os.objects ot.objects alike.objects in
    let handles = same_entries nat_cmp_total nat_cmp-IsAntisymmetric s.handles t.handles os.handles ot.handles alike.handles in
    λ i. record { names = names i; objects = objects i; handles = handles i }
