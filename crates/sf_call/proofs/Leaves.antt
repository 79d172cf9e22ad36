-- The leaves of a tree: they are in the order of their paths, and a lookup finds the object of a
-- path.
use Rattle.std.proofs.Common.{◌≡◌, ℕ, T, cond, true, false, List, [], ◌∷◌, filter_map, option_map, option_and_then, Option, Some, None, IsSome, refl, sym, ap, subst, ◌∙◌}
use Rattle.std.specs.List.{cons_option}
use Rattle.std.specs.declared.cmp.Ordering.{Ordering}
use Rattle.std.specs.Ordering.{is_lt}
use Rattle.std.specs.Cmp.{IsTotalOrder}
use Rattle.std.specs.Map.{lookup}
use Rattle.std.specs.BTreeMap.{is_at}
use Rattle.std.specs.FinMap.{is_sorted}
use Rattle.std.specs.FinMap.Entries.{below_all}
use Rattle.sf_path.specs.Names.{Path}
use Rattle.sf_path.specs.Order.{path_cmp, path_total, same_path}
use Rattle.sf_call.specs.declared.record.Record.{Record}
use Rattle.sf_call.specs.Attributes.{Object}
use Rattle.sf_call.specs.Tree.{Tree, IsOrderedTree, label_at, object_of}
use Rattle.sf_call.specs.Histories.{replay, IsLegal}
use Rattle.sf_call.specs.Leaves.{named_by, leaves_of}
use Rattle.sf_call.proofs.MovedNames.{is_equal}
use Rattle.sf_call.proofs.Ordered.{and_both, and_first, and_second, ordered_replay}
use Rattle.sf_call.proofs.LookUps.{lookup_below}
use Rattle.sf_call.proofs.Sound.{sound_replay}

-- entries with mapped values; those without one are left out
module _ {K X Y : Type 0} (R : K → K → Ordering) (g : X → Option Y) where
  abbrev valued : K × X → Option (K × Y)
  valued e = option_map (λ v. (e.0, v)) (g e.1)

  below_valued : (k : K) (es : List (K × X)) → T (below_all R k es) → T (below_all R k (filter_map valued es))
  below_valued k [] h = tt
  below_valued k (e ∷ es) h =
      let rest = below_valued k es (and_second (is_lt (R k e.0)) (below_all R k es) h) in
      elim (g e.1) as (λ o. T (below_all R k (cons_option (option_map (λ v. (e.0, v)) o) (filter_map valued es)))) [
        | None ↦ rest
        | Some y ↦ and_both (is_lt (R k e.0)) (below_all R k (filter_map valued es)) (and_first (is_lt (R k e.0)) (below_all R k es) h) rest
      ]

  valued_sorted : (es : List (K × X)) → T (is_sorted R es) → T (is_sorted R (filter_map valued es))
  valued_sorted [] h = tt
  valued_sorted (e ∷ es) h =
      let first = and_first (below_all R e.0 es) (is_sorted R es) h in
      let rest = valued_sorted es (and_second (below_all R e.0 es) (is_sorted R es) h) in
      elim (g e.1) as (λ o. T (is_sorted R (cons_option (option_map (λ v. (e.0, v)) o) (filter_map valued es)))) [
        | None ↦ rest
        | Some y ↦ and_both (below_all R e.0 (filter_map valued es)) (is_sorted R (filter_map valued es)) (below_valued e.0 es first) rest
      ]

  valued_lookup : IsTotalOrder R → (es : List (K × X)) → T (is_sorted R es) → (q : K) → lookup (is_at (R q)) (filter_map valued es) ≡ option_and_then g (lookup (is_at (R q)) es)
  valued_lookup o [] h q = refl
  valued_lookup o (e ∷ es) h q =
      let first = and_first (below_all R e.0 es) (is_sorted R es) h in
      let rest : lookup (is_at (R q)) (filter_map valued es) ≡ option_and_then g (lookup (is_at (R q)) es) = valued_lookup o es (and_second (below_all R e.0 es) (is_sorted R es) h) q in
      elim (is_at (R q) e.0) as (λ b. is_at (R q) e.0 ≡ b → lookup (is_at (R q)) (cons_option (valued e) (filter_map valued es)) ≡ option_and_then g (cond b (Some e.1) (lookup (is_at (R q)) es))) [
        | true ↦ λ t. elim (g e.1) as (λ v. lookup (is_at (R q)) (cons_option (option_map (λ y. (e.0, y)) v) (filter_map valued es)) ≡ v) [
          | None ↦ rest ∙ ap (option_and_then g) (lookup_below R o q e.0 es (is_equal (R q e.0) t) first)
          | Some y ↦ ap (λ b. cond b (Some y) (lookup (is_at (R q)) (filter_map valued es))) t
        ]
        | false ↦ λ t. elim (g e.1) as (λ v. lookup (is_at (R q)) (cons_option (option_map (λ y. (e.0, y)) v) (filter_map valued es)) ≡ option_and_then g (lookup (is_at (R q)) es)) [
          | None ↦ rest
          | Some y ↦ ap (λ b. cond b (Some y) (lookup (is_at (R q)) (filter_map valued es))) t ∙ rest
        ]
      ] refl

pub found_leaf : (t : Tree) (q : Path) → IsOrderedTree t → lookup (same_path q) (leaves_of t) ≡ option_and_then (named_by t.objects) (label_at t.names q)
found_leaf t q o = valued_lookup path_cmp (named_by t.objects) path_total t.names o.names q

pub ordered_leaves : (t : Tree) → IsOrderedTree t → T (is_sorted path_cmp (leaves_of t))
ordered_leaves t o = valued_sorted path_cmp (named_by t.objects) t.names o.names

has_object : (label : ℕ) (o : Option Object) → IsSome o → IsSome {T = ℕ × Object} (option_map (λ v. (label, v)) o)
has_object label None there = cc
has_object label (Some o) there = refl

pub no_leaf_missing : (history : List Record) (path : Path) (label : ℕ) → IsLegal history
    → label_at (replay history).names path ≡ Some label → IsSome (lookup (same_path path) (leaves_of (replay history)))
no_leaf_missing history path label legal is =
    let t = replay history in
    subst (λ (o : Option (ℕ × Object)). IsSome o) (sym (found_leaf t path (ordered_replay history) ∙ ap (option_and_then (named_by t.objects)) is))
    (has_object label (object_of t.objects label) ((sound_replay history legal).founded.object path label is))
