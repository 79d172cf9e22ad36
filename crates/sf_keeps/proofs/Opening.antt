-- A store represents the tree after a handle was opened, and after a listing.
use Rattle.std.specs.Prelude.{◌≡◌, ◌≢◌, ℕ, ◌+◌, ◌-◌, ◌<◌, ◌^◌, min, nat_eq, cond, ◌&&◌, List, option_map, option_and_then, Option, Some, None, refl}
use Rattle.std.specs.Option.{option_map_or}
use Rattle.std.proofs.Common.{sym, ap, subst, ◌∙◌, inl, inr, arith, eq-eqb}
use Rattle.sf_path.specs.Names.{Name}
use Rattle.sf_call.specs.declared.handle.Handle.{Handle}
use Rattle.sf_call.specs.Tree.{Tree, handle_of}
use Rattle.sf_call.specs.Handles.{if_of}
use Rattle.sf_call.specs.Changes.{Change as change, changed}
use Rattle.sf_call.proofs.Laws.{ordered_changed}
use Rattle.sf_inode.specs.declared.node.Node.{Node}
use Rattle.sf_inode.specs.declared.handle.OpenHandle.{OpenHandle}
use Rattle.sf_inode.specs.declared.handle.Marks.{Marks}
use Rattle.sf_inode.specs.Nodes.{with_opened}
use Rattle.sf_keeps.specs.Shows.{View, Shows}
use Rattle.sf_inode.specs.Stores.{StoreState, node_in, open_handle_at, shown_handle, with_sessions, edited, after_open, new_handle, after_open_node, handle_listed, with_last}
use Rattle.sf_keeps.specs.Keeps.{view_of, Keeps, times_open}
use Rattle.sf_keeps.proofs.Through.{by_test}
use Rattle.sf_keeps.proofs.SetsAt.{SetsAt, number_keys, nat_eq_apart, some_found, inserted_at, value_at}
use Rattle.sf_keeps.proofs.Less.{handle_there}
use Rattle.sf_keeps.proofs.Handled.{shows_open, shows_listed}
use Rattle.sf_keeps.proofs.StoreLaws.{view_unseen, edited_node}
use Rattle.sf_keeps.proofs.StoreHandles.{HandleSet, put_handle_set, listed_set, view_set}
use Rattle.sf_keeps.proofs.Counts.{opened_times, set_times, few_handles}
use Rattle.sf_keeps.proofs.Alike.{AreAlike, linked_alike, bare_alike, counted_alike, counted_now, counted_there}

-- ---- a handle opened
module _ (s : StoreState) (t : Tree) (k : Keeps s t) (session number id : ℕ) (marks : Marks) (node : Node)
    (low : 0 < number) (high : number < 2 ^ 64) (free : handle_of t.handles number ≡ None) (here : node_in s.nodes id ≡ Some node) where
  abbrev own : OpenHandle
  own = record { node = id; label = node.label; marks = marks; listed = None }

  abbrev shown : Handle
  shown = shown_handle session own

  abbrev after : Tree
  after = changed t (change.OpenHandle number shown)

  abbrev more : Node → Node
  more it = with_opened (min (it.opens + 1) (2 ^ 64 - 1)) it

  numbers_after : (q : ℕ) (h : Handle) → handle_of after.handles q ≡ Some h → (0 < q) × (q < 2 ^ 64)
  numbers_after q h e =
      elim (some_found (inserted_at number_keys t.handles number shown) q e) [
        | inl f ↦ subst (λ (x : ℕ). (0 < x) × (x < 2 ^ 64)) f.0 (low, high)
        | inr f ↦ k.numbers q h f.1
      ]

  others : (label : ℕ) → node.label ≢ label → times_open after label ≡ times_open t label
  others label ne =
      let a : times_open after label ≡ 0 + times_open t label = opened_times t number shown label free ∙ ap (λ b. cond b 1 0 + times_open t label) (nat_eq_apart node.label label ne) in
      omega (arith, a)

  -- the count is below its limit
  counted : min (node.opens + 1) (2 ^ 64 - 1) ≡ times_open after node.label
  counted =
      let a : times_open after node.label ≡ 1 + times_open t node.label = opened_times t number shown node.label free ∙ ap (λ b. cond b 1 0 + times_open t node.label) (eq-eqb node.label node.label refl) in
      let b = k.counted id node here in
      let c = few_handles after node.label (ordered_changed t (change.OpenHandle number shown) k.shows.ordered).handles numbers_after in
      omega (arith, a, b, c)

  module _ (new : List (ℕ × List (ℕ × OpenHandle))) (set : HandleSet s new session number (Some own)) where
    abbrev mid : StoreState
    mid = with_sessions s new

    abbrev nodes : List (Option Node)
    nodes = (edited more mid id).nodes

    put : SetsAt (node_in s.nodes) (node_in nodes) id (Some (more node))
    put = edited_node more mid id node here

    alike : AreAlike s.nodes nodes
    alike = counted_alike s t k id (more node).opens node here nodes put

    led_after : (a b : ℕ) (h : OpenHandle) → open_handle_at mid a b ≡ Some h → (x : Node) × ((node_in nodes h.node ≡ Some x) × (x.label ≡ h.label))
    led_after a b h e =
        elim (by_test (nat_eq session a && nat_eq number b) (sym (set.at a b) ∙ e)) [
          | inl f ↦
              let same : own ≡ h = cc in
              subst (λ (y : OpenHandle). (x : Node) × ((node_in nodes y.node ≡ Some x) × (x.label ≡ y.label))) same (more node, (put.at, refl))
          | inr f ↦
              let w = k.led a b h f.1 in
              let y = counted_there s t k id (more node).opens node here nodes put h.node w.0 w.1.0 in
              (y.0, (y.1, y.2 ∙ w.1.1))
        ]

    keeps_put : Keeps (edited more mid id) after
    keeps_put = record {
      shows = subst (λ (v : View). Shows v after) (sym (view_unseen more mid id node here (λ m. refl) refl ∙ view_set s new session number (Some own) set))
          (shows_open (view_of s) t k.shows number shown (λ a. sym (k.shows.by.handles a number) ∙ ap (option_and_then (if_of a)) free));
      entries = alike.ordered k.entries;
      linked = linked_alike s t k (edited more mid id) alike;
      bare = bare_alike s t k (edited more mid id) alike;
      counted = counted_now s t k id (more node).opens node here nodes put after counted others;
      led = led_after;
      sessions = set.sessions;
      handles = set.handles;
      numbers = numbers_after;
    }

  pub keeps_opened : Keeps (after_open s session number id marks) after
  keeps_opened =
      let p = put_handle_set s k.sessions k.handles session number own in
      subst (λ (x : StoreState). Keeps x after) (sym (ap (λ (o : Option Node). option_map_or (λ (node : Node). after_open_node s session number (new_handle id marks node)) o s) here ∙ ap (λ (z : StoreState). edited more z id) p.1)) (keeps_put p.0 p.2)

-- ---- the last listed name of a handle
module _ (s : StoreState) (t : Tree) (k : Keeps s t) (session number : ℕ) (h : OpenHandle) (at : open_handle_at s session number ≡ Some h) (name : Name) where
  abbrev set_handle : Handle
  set_handle = record (shown_handle session h) { listed = Some name }

  abbrev listed : Tree
  listed = changed t (change.SetHandle number set_handle)

  opens : (view_of s).opens session number ≡ Some (shown_handle session h)
  opens = ap (option_map (shown_handle session)) at

  there : handle_of t.handles number ≡ Some (shown_handle session h)
  there = (handle_there t session number (shown_handle session h) (k.shows.by.handles session number ∙ opens)).0

  numbers_listed : (q : ℕ) (x : Handle) → handle_of listed.handles q ≡ Some x → (0 < q) × (q < 2 ^ 64)
  numbers_listed q x e =
      elim (some_found (value_at number_keys t.handles number (shown_handle session h) set_handle there) q e) [
        | inl f ↦ subst (λ (y : ℕ). (0 < y) × (y < 2 ^ 64)) f.0 (k.numbers number (shown_handle session h) there)
        | inr f ↦ k.numbers q x f.1
      ]

  module _ (new : List (ℕ × List (ℕ × OpenHandle))) (set : HandleSet s new session number (Some (with_last name h))) where
    led_listed : (a b : ℕ) (x : OpenHandle) → open_handle_at (with_sessions s new) a b ≡ Some x → (y : Node) × ((node_in s.nodes x.node ≡ Some y) × (y.label ≡ x.label))
    led_listed a b x e =
        elim (by_test (nat_eq session a && nat_eq number b) (sym (set.at a b) ∙ e)) [
          | inl f ↦
              let same : with_last name h ≡ x = cc in
              subst (λ (z : OpenHandle). (y : Node) × ((node_in s.nodes z.node ≡ Some y) × (y.label ≡ z.label))) same (k.led session number h at)
          | inr f ↦ k.led a b x f.1
        ]

    keeps_set : Keeps (with_sessions s new) listed
    keeps_set = record {
      shows = subst (λ (v : View). Shows v listed) (sym (view_set s new session number (Some (with_last name h)) set)) (shows_listed (view_of s) t k.shows session number (shown_handle session h) opens set_handle refl refl);
      entries = k.entries;
      linked = k.linked;
      bare = k.bare;
      counted = λ i x e. k.counted i x e ∙ sym (set_times t number (shown_handle session h) x.label set_handle there refl);
      led = led_listed;
      sessions = set.sessions;
      handles = set.handles;
      numbers = numbers_listed;
    }

  pub keeps_listed : Keeps (handle_listed s session number name) listed
  keeps_listed =
      let p = listed_set s k.sessions k.handles session number h at name in
      subst (λ (x : StoreState). Keeps x listed) (sym p.1) (keeps_set p.0 p.2)
