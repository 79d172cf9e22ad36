-- The handles of a session in the store and in the tree.
use Rattle.std.specs.Prelude.{◌≡◌, ℕ, nat_eq, T, List, [], length, map, filter, option_map, option_and_then, Option, Some, None, refl}
use Rattle.std.proofs.Common.{sym, ap, ◌∙◌}
use Rattle.std.specs.List.{count_by}
use Rattle.std.specs.Option.{option_map_or}
use Rattle.std.specs.Ordering.{nat_cmp}
use Rattle.std.specs.Cmp.{nat_cmp_total, eq_by_cmp_equiv}
use Rattle.std.specs.Map.{lookup}
use Rattle.std.specs.BTreeMap.{is_at}
use Rattle.std.specs.FinMap.{is_sorted, nat_cmp-IsAntisymmetric}
use Rattle.std.proofs.lemmas.List.{length-map}
use Rattle.std.proofs.lemmas.List.Sums.{length-filter}
use Rattle.std.proofs.lemmas.Map.Made.{lookup-map_values}
use Rattle.std.proofs.lemmas.Map.Entries.{option_filter, lookup-filter-values}
use Rattle.sf_call.specs.declared.handle.Handle.{Handle}
use Rattle.sf_call.specs.Tree.{Tree, handle_of, object_of}
use Rattle.sf_call.specs.Handles.{if_of}
use Rattle.sf_call.proofs.Laws.{sorted_filtered}
use Rattle.sf_inode.specs.declared.node.Node.{Node}
use Rattle.sf_inode.specs.declared.handle.OpenHandle.{OpenHandle}
use Rattle.sf_inode.specs.Nodes.{object_in}
use Rattle.sf_inode.specs.Stores.{StoreState, node_in, open_handle_at, handles_of, shown_handle}
use Rattle.sf_keeps.specs.Keeps.{Keeps}
use Rattle.sf_keeps.proofs.Keyed.{distinct}
use Rattle.sf_keeps.proofs.Orderly.{sorted_mapped, same_sorted}
use Rattle.sf_keeps.proofs.Openings.{object_there}

filtered_is : (session : ℕ) (o : Option Handle) → option_filter (λ (h : Handle). nat_eq h.session session) o ≡ option_and_then (if_of session) o
filtered_is session None = refl
filtered_is session (Some h) = refl

module _ (s : StoreState) (t : Tree) (k : Keeps s t) where
  module _ (session : ℕ) where
    own_found : (number : ℕ) → lookup (is_at (nat_cmp number)) (filter (λ (e : ℕ × Handle). nat_eq e.1.session session) t.handles) ≡ option_map (shown_handle session) (open_handle_at s session number)
    own_found number =
        lookup-filter-values (eq_by_cmp_equiv nat_cmp_total) (λ (h : Handle). nat_eq h.session session) number t.handles (distinct nat_cmp nat_cmp_total t.handles k.shows.ordered.handles)
        ∙ filtered_is session (handle_of t.handles number) ∙ k.shows.by.handles session number

    counted_list : (handles : List (ℕ × OpenHandle)) → T (is_sorted nat_cmp handles) → ((number : ℕ) → lookup (is_at (nat_cmp number)) handles ≡ open_handle_at s session number)
        → length handles ≡ count_by (λ (e : ℕ × Handle). nat_eq e.1.session session) t.handles
    counted_list handles sorted found =
        let shown = map (λ (e : ℕ × OpenHandle). (e.0, shown_handle session e.1)) handles in
        let is : shown ≡ filter (λ (e : ℕ × Handle). nat_eq e.1.session session) t.handles =
        same_sorted nat_cmp nat_cmp_total nat_cmp-IsAntisymmetric shown (filter (λ (e : ℕ × Handle). nat_eq e.1.session session) t.handles)
        (sorted_mapped nat_cmp (shown_handle session) handles sorted) (sorted_filtered nat_cmp (λ (e : ℕ × Handle). nat_eq e.1.session session) t.handles k.shows.ordered.handles)
        (λ q. lookup-map_values (shown_handle session) (is_at (nat_cmp q)) handles ∙ ap (option_map (shown_handle session)) (found q) ∙ sym (own_found q)) in
        sym (length-map handles (λ (e : ℕ × OpenHandle). (e.0, shown_handle session e.1))) ∙ ap length is ∙ length-filter (λ (e : ℕ × Handle). nat_eq e.1.session session) t.handles

    counted_at : (o : Option (List (ℕ × OpenHandle))) → handles_of s session ≡ o → option_map_or (λ (handles : List (ℕ × OpenHandle)). length handles) o 0 ≡ count_by (λ (e : ℕ × Handle). nat_eq e.1.session session) t.handles
    counted_at None e = counted_list [] tt (λ number. sym (ap (option_and_then (λ (handles : List (ℕ × OpenHandle)). lookup (is_at (nat_cmp number)) handles)) e))
    counted_at (Some handles) e = counted_list handles (k.handles session handles e) (λ number. sym (ap (option_and_then (λ (handles : List (ℕ × OpenHandle)). lookup (is_at (nat_cmp number)) handles)) e))

  -- the same number in both
  pub handle_count : (session : ℕ) → option_map_or (λ (handles : List (ℕ × OpenHandle)). length handles) (handles_of s session) 0 ≡ count_by (λ (e : ℕ × Handle). nat_eq e.1.session session) t.handles
  handle_count session = counted_at session (handles_of s session) refl

  -- its inode exists, with the object of its number
  pub found_node : (session number : ℕ) (h : OpenHandle) → open_handle_at s session number ≡ Some h
      → (node : Node) × ((node_in s.nodes h.node ≡ Some node) × (node.label ≡ h.label) × (object_of t.objects h.label ≡ Some (object_in node.metadata node.content)))
  found_node session number h at =
      let w = k.led session number h at in
      (w.0, (w.1.0, w.1.1, ap (object_of t.objects) (sym w.1.1) ∙ object_there s t k h.node w.0 w.1.0))

  -- a number of no handle
  pub free_handles : (number : ℕ) → handle_of t.handles number ≡ None → (session : ℕ) → open_handle_at s session number ≡ None
  free_handles number free session =
      elim (open_handle_at s session number) as (λ o. option_map (shown_handle session) o ≡ None → o ≡ None) [
        | None ↦ λ e. refl
        | Some h ↦ λ e. cc
      ] (sym (k.shows.by.handles session number) ∙ ap (option_and_then (if_of session)) free)
