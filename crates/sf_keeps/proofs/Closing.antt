-- A store represents the tree after a handle was closed.
use Rattle.std.specs.Prelude.{◌≡◌, ◌≢◌, ℕ, ◌+◌, ◌-◌, ◌<◌, ◌^◌, nat_eq, Bool, true, false, cond, ◌&&◌, if◌then◌else◌, List, slice_set, option_map, Option, Some, None, refl}
use Rattle.std.proofs.Common.{sym, ap, subst, ◌∙◌, arith, eq-eqb, inl, inr}
use Rattle.std.proofs.lemmas.Bool.{true_from_ne_false, and_cases, or_left, or_right, cases_Bool}
use Rattle.std.specs.Ordering.{nat_cmp}
use Rattle.std.specs.Map.{remove_entry}
use Rattle.std.specs.BTreeMap.{is_at}
use Rattle.sf_call.specs.declared.handle.Handle.{Handle}
use Rattle.sf_call.specs.Tree.{Tree, handle_of, is_used}
use Rattle.sf_call.specs.Changes.{Change as change, changed}
use Rattle.sf_inode.specs.declared.node.Node.{Node}
use Rattle.sf_inode.specs.declared.handle.OpenHandle.{OpenHandle}
use Rattle.sf_inode.specs.Nodes.{object_in, with_opened, is_unused}
use Rattle.sf_keeps.specs.Shows.{View, Shows, with_opens, with_shown}
use Rattle.sf_inode.specs.Stores.{StoreState, node_in, open_handle_at, shown_node, shown_handle, with_nodes, with_sessions, edited, released_if, released, after_close, handles_of, handle_dropped, closed_by, closed}
use Rattle.sf_keeps.specs.Keeps.{view_of, Keeps, IsUnlinked, times_open}
use Rattle.sf_keeps.proofs.Through.{was_there}
use Rattle.sf_keeps.proofs.SetsAt.{SetsAt, number_keys, nat_eq_apart, gone_found, set_twice, removed_at}
use Rattle.sf_keeps.proofs.Less.{is_named, is_opened, IsClosed, handle_there, opened_by}
use Rattle.sf_keeps.proofs.Handled.{by_closed, shows_closed_last, shows_closed}
use Rattle.sf_keeps.proofs.StoreLaws.{view_stays, view_goes, set_node, edited_node}
use Rattle.sf_keeps.proofs.StoreHandles.{HandleSet, dropped_set, view_set}
use Rattle.sf_keeps.proofs.Counts.{closed_times}
use Rattle.sf_keeps.proofs.Openings.{any_counted, none_counted, some_names, linked_named, both_zero, unnamed_node}
use Rattle.sf_keeps.proofs.Alike.{linked_alike, bare_alike, counted_alike, counted_now, counted_there, gone_alike, gone_now}

module _ (s : StoreState) (t : Tree) (k : Keeps s t) (session number : ℕ) (h : OpenHandle) (at : open_handle_at s session number ≡ Some h) (node : Node) (here : node_in s.nodes h.node ≡ Some node) (same : node.label ≡ h.label) where
  abbrev less : Node → Node
  less it = with_opened (it.opens - 1) it

  abbrev rest : Tree
  rest = record t { handles = remove_entry (is_at (nat_cmp number)) t.handles }

  abbrev after : Tree
  after = changed t (change.CloseHandle number)

  abbrev shown : Handle
  shown = shown_handle session h

  abbrev seen : View
  seen = with_opens (view_of s) session number None

  opens : (view_of s).opens session number ≡ Some shown
  opens = ap (option_map (shown_handle session)) at

  there : handle_of t.handles number ≡ Some shown
  there = (handle_there t session number shown (k.shows.by.handles session number ∙ opens)).0

  numbers_after : (q : ℕ) (x : Handle) → handle_of after.handles q ≡ Some x → (0 < q) × (q < 2 ^ 64)
  numbers_after q x e = k.numbers q x (gone_found (removed_at number_keys t.handles number k.shows.ordered.handles) q e).1

  -- ---- the number of open handles of the inode now
  others : (label : ℕ) → node.label ≢ label → times_open after label ≡ times_open t label
  others label ne =
      let a : times_open t label ≡ 0 + times_open after label = closed_times t number shown label there ∙ ap (λ b. cond b 1 0 + times_open after label) (nat_eq_apart h.label label (λ e. ne (same ∙ e))) in
      omega (arith, a)

  counted : node.opens - 1 ≡ times_open after node.label
  counted =
      let a : times_open t node.label ≡ 1 + times_open after node.label = closed_times t number shown node.label there ∙ ap (λ b. cond b 1 0 + times_open after node.label) (eq-eqb h.label node.label (sym same)) in
      let b = k.counted h.node node here in
      omega (arith, a, b)

  -- a handle that is still open is counted
  closed_label : times_open after node.label ≡ 0 → IsClosed seen h.label
  closed_label none a b x e label =
      any_counted (λ e. nat_eq e.1.label node.label) rest.handles
      (ap (is_opened rest) (same ∙ sym label) ∙ opened_by seen rest (by_closed (view_of s) t k.shows session number shown opens) a b x e) none

  named_used : 0 < node.names → is_named t h.label ≡ true
  named_used some = ap (is_named t) (sym same) ∙ linked_named t.names node.label (subst (λ (n : ℕ). 0 < n) (k.linked h.node node here) some)

  opened_used : nat_eq (node.opens - 1) 0 ≡ false → is_opened rest h.label ≡ true
  opened_used some = true_from_ne_false (is_opened rest h.label) (λ e.
      let none : times_open after node.label ≡ 0 = none_counted (λ e. nat_eq e.1.label node.label) rest.handles (ap (is_opened rest) same ∙ e) in
      let zero : nat_eq (node.opens - 1) 0 ≡ true = ap (λ (n : ℕ). nat_eq n 0) (counted ∙ none) in cc)

  still_used : is_unused (less node) ≡ false → is_used rest.names rest.handles h.label ≡ true
  still_used used = elim (and_cases (nat_eq node.names 0) (nat_eq (node.opens - 1) 0) used) [
    | inl e ↦ or_left (is_named rest h.label) (is_opened rest h.label) (named_used (some_names node.names e))
    | inr some ↦ or_right (is_named rest h.label) (is_opened rest h.label) (opened_used some)
  ]

  object : (view_of s).shown h.node ≡ Some (h.label, object_in node.metadata node.content)
  object = ap (option_map shown_node) here ∙ (λ i. Some (same i, object_in node.metadata node.content))

  module _ (new : List (ℕ × List (ℕ × OpenHandle))) (set : HandleSet s new session number None) where
    abbrev mid : StoreState
    mid = with_sessions s new

    abbrev stays : StoreState
    stays = edited less mid h.node

    put : SetsAt (node_in s.nodes) (node_in stays.nodes) h.node (Some (less node))
    put = edited_node less mid h.node node here

    view_mid : view_of mid ≡ seen
    view_mid = view_set s new session number None set

    -- another handle of the session
    still_there : (a b : ℕ) (x : OpenHandle) → open_handle_at mid a b ≡ Some x → open_handle_at s a b ≡ Some x
    still_there a b x e = was_there (nat_eq session a && nat_eq number b) (sym (set.at a b) ∙ e)

    -- ---- it stays
    keeps_stays : is_unused (less node) ≡ false → Keeps (after_close mid h.node) after
    keeps_stays used =
        let is : released stays h.node ≡ stays = ap (released_if stays h.node) put.at ∙ ap (λ (b : Bool). if b then with_nodes stays (slice_set stays.nodes h.node None) else stays) used in
        let alike = counted_alike s t k h.node (less node).opens node here stays.nodes put in
        subst (λ (x : StoreState). Keeps x after) (sym is) (record {
          shows = subst (λ (v : View). Shows v after) (sym (ap view_of (sym is) ∙ view_stays less mid h.node node here (λ m. refl) refl used ∙ view_mid))
              (shows_closed (view_of s) t k.shows session number shown opens h.node (object_in node.metadata node.content) object (still_used used));
          entries = alike.ordered k.entries;
          linked = linked_alike s t k stays alike;
          bare = bare_alike s t k stays alike;
          counted = counted_now s t k h.node (less node).opens node here stays.nodes put after counted others;
          led = λ a b x e.
              let w = k.led a b x (still_there a b x e) in
              let y = counted_there s t k h.node (less node).opens node here stays.nodes put x.node w.0 w.1.0 in (y.0, (y.1, y.2 ∙ w.1.1));
          sessions = set.sessions;
          handles = set.handles;
          numbers = numbers_after;
        })

    -- ---- it is deleted
    abbrev goes : StoreState
    goes = with_nodes stays (slice_set stays.nodes h.node None)

    gone : SetsAt (node_in s.nodes) (node_in goes.nodes) h.node None
    gone = set_twice put (set_node stays.nodes h.node (less node) None put.at)

    keeps_goes : is_unused (less node) ≡ true → Keeps (after_close mid h.node) after
    keeps_goes unused =
        let is : released stays h.node ≡ goes = ap (released_if stays h.node) put.at ∙ ap (λ (b : Bool). if b then with_nodes stays (slice_set stays.nodes h.node None) else stays) unused in
        let why = both_zero node.names (node.opens - 1) unused in
        let u : IsUnlinked s h.node = unnamed_node s t k h.node node here why.0 in
        let last : IsClosed seen h.label = closed_label (sym counted ∙ why.1) in
        let alike = gone_alike s t k h.node node here goes.nodes gone u.bare in
        subst (λ (x : StoreState). Keeps x after) (sym is) (record {
          shows = subst (λ (v : View). Shows v after) (sym (ap view_of (sym is) ∙ view_goes less mid h.node node here (λ m. refl) refl u.bare unused ∙ ap (λ (v : View). with_shown v h.node None) view_mid))
              (shows_closed_last (view_of s) t k.shows session number shown opens h.node (object_in node.metadata node.content) object u.free u.other u.bare last);
          entries = alike.ordered k.entries;
          linked = linked_alike s t k goes alike;
          bare = bare_alike s t k goes alike;
          counted = gone_now s t k h.node node here goes.nodes gone after others;
          led = λ a b x e.
              let w = k.led a b x (still_there a b x e) in (
                w.0,
                (
                  gone.beside x.node
                      (λ f.
                      let one : Some node ≡ Some w.0 = sym here ∙ ap (node_in s.nodes) f ∙ w.1.0 in
                      let is : node ≡ w.0 = cc in
                      last a b (shown_handle a x) (sym (ap (λ (v : View). v.opens a b) view_mid) ∙ ap (option_map (shown_handle a)) e) (sym w.1.1 ∙ sym (ap (λ (y : Node). y.label) is) ∙ same)) ∙ w.1.0,
                  w.1.1,
                ),
              );
          sessions = set.sessions;
          handles = set.handles;
          numbers = numbers_after;
        })

    keeps_gone_or_not : Keeps (after_close mid h.node) after
    keeps_gone_or_not = elim (cases_Bool (is_unused (less node))) [ inl e ↦ keeps_goes e | inr e ↦ keeps_stays e ]

pub keeps_closed : (s : StoreState) (t : Tree) → Keeps s t → (session number : ℕ) (h : OpenHandle) → open_handle_at s session number ≡ Some h → Keeps (closed s session number) (changed t (change.CloseHandle number))
keeps_closed s t k session number h at =
    let p = dropped_set s k.sessions k.handles session number h at in
    let w = k.led session number h at in
    subst (λ (x : StoreState). Keeps x (changed t (change.CloseHandle number)))
    (sym (ap (λ (o : Option OpenHandle). closed_by (handle_dropped s session number (handles_of s session)) o) at ∙ ap (λ (z : StoreState). after_close z h.node) p.1))
    (keeps_gone_or_not s t k session number h at w.0 w.1.0 w.1.1 p.0 p.2)
