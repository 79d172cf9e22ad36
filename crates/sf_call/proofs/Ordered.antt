-- Each change keeps the maps in key order.
use Rattle.std.proofs.Common.{◌≡◌, ℕ, Bool, true, false, T, cond, not, nat_eq, ◌&&◌, List, [], ◌∷◌, filter, filter_map, fold, refl, sym, ap, subst}
use Rattle.std.specs.declared.cmp.Ordering.{Ordering}
use Rattle.std.specs.declared.cmp.Ordering.TheVariants.{Less, Equal, Greater}
use Rattle.std.specs.Ordering.{nat_cmp, match_ordering, is_lt}
use Rattle.std.specs.Cmp.{IsTotalOrder, nat_cmp_total}
use Rattle.std.specs.Map.{remove_entry, set_value}
use Rattle.std.specs.BTreeMap.{insert_entry, is_at}
use Rattle.std.specs.FinMap.{put, is_sorted}
use Rattle.std.specs.FinMap.Entries.{by_order, below_all, is_sorted-put}
use Rattle.sf_path.specs.Names.{Path}
use Rattle.sf_path.specs.Order.{path_cmp, path_total}
use Rattle.sf_reply.specs.declared.reply.Reply.{Reply}
use Rattle.sf_reply.specs.declared.reply.Reply.TheVariants as reply
use Rattle.sf_call.specs.declared.record.Record.{Record}
use Rattle.sf_call.specs.declared.record.Record.TheVariants.{Did, Left}
use Rattle.sf_call.specs.Tree.{Tree, IsOrderedTree, is_used, kept, empty_tree}
use Rattle.sf_call.specs.Moves.{with_entries, carried, is_outside}
use Rattle.sf_call.specs.Changes.{Change, changed, done}
use Rattle.sf_call.specs.Changes.Change.{SetObject, NewPath, NewName, GonePath, Move, OpenHandle, SetHandle, CloseHandle}
use Rattle.sf_call.specs.Calls.{answer_to, apply, leave}
use Rattle.sf_call.specs.Histories.{after, after_reply, replay}

pub and_both : (a b : Bool) → T a → T b → T (a && b)
and_both true b p q = q
and_both false b p q = p

pub and_first : (a b : Bool) → T (a && b) → T a
and_first true b p = tt
and_first false b p = p

pub and_second : (a b : Bool) → T (a && b) → T b
and_second true b p = p
and_second false b p = absurd p

module _ {K X : Type 0} (R : K → K → Ordering) where
  pub put_is : (es : List (K × X)) (k : K) (v : X) → insert_entry R es k v ≡ put R k v es
  put_is [] k v = refl
  put_is (e ∷ es) k v =
      elim (R k e.0) as (λ r. match_ordering r ((k, v) ∷ e ∷ es) ((e.0, v) ∷ es) (e ∷ insert_entry R es k v) ≡ by_order r ((k, v) ∷ e ∷ es) ((e.0, v) ∷ es) (e ∷ put R k v es)) [
        | Less ↦ refl
        | Equal ↦ refl
        | Greater ↦ ap (λ (rest : List (K × X)). e ∷ rest) (put_is es k v)
      ]

  pub sorted_put : IsTotalOrder R → (es : List (K × X)) (k : K) (v : X) → T (is_sorted R es) → T (is_sorted R (insert_entry R es k v))
  sorted_put o es k v h = subst (λ (fs : List (K × X)). T (is_sorted R fs)) (sym (put_is es k v)) (is_sorted-put R o k v es h)

  below_removed : (x : K) (test : K → Bool) (es : List (K × X)) → T (below_all R x es) → T (below_all R x (remove_entry test es))
  below_removed x test [] h = tt
  below_removed x test (e ∷ es) h =
      elim (test e.0) as (λ b. T (below_all R x (cond b es (e ∷ remove_entry test es)))) [
        | true ↦ and_second (is_lt (R x e.0)) (below_all R x es) h
        | false ↦ and_both (is_lt (R x e.0)) _ (and_first (is_lt (R x e.0)) (below_all R x es) h) (below_removed x test es (and_second (is_lt (R x e.0)) (below_all R x es) h))
      ]

  pub sorted_removed : (test : K → Bool) (es : List (K × X)) → T (is_sorted R es) → T (is_sorted R (remove_entry test es))
  sorted_removed test [] h = tt
  sorted_removed test (e ∷ es) h =
      let below = and_first (below_all R e.0 es) (is_sorted R es) h in
      let rest = and_second (below_all R e.0 es) (is_sorted R es) h in
      elim (test e.0) as (λ b. T (is_sorted R (cond b es (e ∷ remove_entry test es)))) [
        | true ↦ rest
        | false ↦ and_both (below_all R e.0 (remove_entry test es)) _ (below_removed e.0 test es below) (sorted_removed test es rest)
      ]

  below_set : (x : K) (test : K → Bool) (v : X) (es : List (K × X)) → below_all R x (set_value test es v) ≡ below_all R x es
  below_set x test v [] = refl
  below_set x test v (e ∷ es) =
      elim (test e.0) as (λ b. below_all R x (cond b ((e.0, v) ∷ es) (e ∷ set_value test es v)) ≡ (is_lt (R x e.0) && below_all R x es)) [
        | true ↦ refl
        | false ↦ ap (λ b. is_lt (R x e.0) && b) (below_set x test v es)
      ]

  pub sorted_set : (test : K → Bool) (v : X) (es : List (K × X)) → T (is_sorted R es) → T (is_sorted R (set_value test es v))
  sorted_set test v [] h = tt
  sorted_set test v (e ∷ es) h =
      let below = and_first (below_all R e.0 es) (is_sorted R es) h in
      elim (test e.0) as (λ b. T (is_sorted R (cond b ((e.0, v) ∷ es) (e ∷ set_value test es v)))) [
        | true ↦ h
        | false ↦ and_both (below_all R e.0 (set_value test es v)) _ (subst (λ b. T b) (sym (below_set e.0 test v es)) below) (sorted_set test v es (and_second (below_all R e.0 es) (is_sorted R es) h))
      ]

  below_filtered : (x : K) (p : K × X → Bool) (es : List (K × X)) → T (below_all R x es) → T (below_all R x (filter p es))
  below_filtered x p [] h = tt
  below_filtered x p (e ∷ es) h =
      let rest = below_filtered x p es (and_second (is_lt (R x e.0)) (below_all R x es) h) in
      elim (p e) as (λ b. T (below_all R x (cond b (e ∷ filter p es) (filter p es)))) [
        | true ↦ and_both (is_lt (R x e.0)) _ (and_first (is_lt (R x e.0)) (below_all R x es) h) rest
        | false ↦ rest
      ]

  pub sorted_filtered : (p : K × X → Bool) (es : List (K × X)) → T (is_sorted R es) → T (is_sorted R (filter p es))
  sorted_filtered p [] h = tt
  sorted_filtered p (e ∷ es) h =
      let rest = sorted_filtered p es (and_second (below_all R e.0 es) (is_sorted R es) h) in
      elim (p e) as (λ b. T (is_sorted R (cond b (e ∷ filter p es) (filter p es)))) [
        | true ↦ and_both (below_all R e.0 (filter p es)) _ (below_filtered e.0 p es (and_first (below_all R e.0 es) (is_sorted R es) h)) rest
        | false ↦ rest
      ]

pub sorted_entries : (names es : List (Path × ℕ)) → T (is_sorted path_cmp names) → T (is_sorted path_cmp (with_entries names es))
sorted_entries names [] h = h
sorted_entries names (e ∷ es) h = sorted_put path_cmp path_total (with_entries names es) e.0 e.1 (sorted_entries names es h)

pub ordered_kept : (tree : Tree) → IsOrderedTree tree → IsOrderedTree (kept tree)
ordered_kept tree o = record {
  names = o.names;
  objects = sorted_filtered nat_cmp (λ e. is_used tree.names tree.handles e.0) tree.objects o.objects;
  handles = o.handles;
}

pub ordered_changed : (tree : Tree) (c : Change) → IsOrderedTree tree → IsOrderedTree (changed tree c)
ordered_changed tree (SetObject label object) o = record {
  names = o.names;
  objects = sorted_set nat_cmp (is_at (nat_cmp label)) object tree.objects o.objects;
  handles = o.handles;
}
ordered_changed tree (NewPath path label object) o = record {
  names = sorted_put path_cmp path_total tree.names path label o.names;
  objects = sorted_put nat_cmp nat_cmp_total tree.objects label object o.objects;
  handles = o.handles;
}
ordered_changed tree (NewName path label) o = record {
  names = sorted_put path_cmp path_total tree.names path label o.names;
  objects = o.objects;
  handles = o.handles;
}
ordered_changed tree (GonePath path) o = ordered_kept _ (record {
  names = sorted_removed path_cmp (is_at (path_cmp path)) tree.names o.names;
  objects = o.objects;
  handles = o.handles;
})
ordered_changed tree (Move old new) o = ordered_kept _ (record {
  names = sorted_entries _ (filter_map (carried old new) tree.names) (sorted_filtered path_cmp (λ e. is_outside old new e.0) tree.names o.names);
  objects = o.objects;
  handles = o.handles;
})
ordered_changed tree (OpenHandle number handle) o = record {
  names = o.names;
  objects = o.objects;
  handles = sorted_put nat_cmp nat_cmp_total tree.handles number handle o.handles;
}
ordered_changed tree (SetHandle number handle) o = record {
  names = o.names;
  objects = o.objects;
  handles = sorted_set nat_cmp (is_at (nat_cmp number)) handle tree.handles o.handles;
}
ordered_changed tree (CloseHandle number) o = ordered_kept _ (record {
  names = o.names;
  objects = o.objects;
  handles = sorted_removed nat_cmp (is_at (nat_cmp number)) tree.handles o.handles;
})

pub ordered_done : (tree : Tree) (cs : List Change) → IsOrderedTree tree → IsOrderedTree (done tree cs)
ordered_done tree [] o = o
ordered_done tree (c ∷ cs) o = ordered_done (changed tree c) cs (ordered_changed tree c o)

ordered_reply : (tree next : Tree) (given : Reply) → IsOrderedTree tree → IsOrderedTree next → IsOrderedTree (after_reply tree next given)
ordered_reply tree next reply.NoMemory o then = o
ordered_reply tree next (reply.Status code) o then = then
ordered_reply tree next (reply.Handle number) o then = then
ordered_reply tree next (reply.Data bytes) o then = then
ordered_reply tree next (reply.Names entries) o then = then
ordered_reply tree next (reply.Attrs attrs) o then = then

pub ordered_left : (tree : Tree) (session : ℕ) → IsOrderedTree tree → IsOrderedTree (leave tree session)
ordered_left tree session o = ordered_kept _ (record {
  names = o.names;
  objects = o.objects;
  handles = sorted_filtered nat_cmp (λ e. not (nat_eq e.1.session session)) tree.handles o.handles;
})

ordered_after : (tree : Tree) (r : Record) → IsOrderedTree tree → IsOrderedTree (after tree r)
ordered_after tree (Did number session moment request given) o =
    ordered_reply tree (apply tree session number moment request).tree given o (ordered_done tree (answer_to tree session number moment request).changes o)
ordered_after tree (Left session) o = ordered_left tree session o

ordered_fold : (tree : Tree) (history : List Record) → IsOrderedTree tree → IsOrderedTree (fold after tree history)
ordered_fold tree [] o = o
ordered_fold tree (r ∷ history) o = ordered_fold (after tree r) history (ordered_after tree r o)

pub ordered_replay : (history : List Record) → IsOrderedTree (replay history)
unfolding replay
ordered_replay history = ordered_fold empty_tree history (record { names = tt; objects = tt; handles = tt })
