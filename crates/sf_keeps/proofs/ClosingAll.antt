-- A store represents the tree after all handles of a session were closed.
use Rattle.std.specs.Prelude.{◌≡◌, ℕ, ◌-◌, Bool, true, false, cond, T, if◌then◌else◌, List, [], ◌∷◌, slice_set, option_map, option_and_then, Option, Some, None, refl}
use Rattle.std.proofs.Common.{sym, ap, subst, ◌∙◌}
use Rattle.std.specs.Ordering.{nat_cmp}
use Rattle.std.specs.Map.{lookup, remove_entry, set_value}
use Rattle.std.specs.BTreeMap.{is_at}
use Rattle.std.specs.FinMap.{is_sorted}
use Rattle.sf_call.specs.Tree.{Tree, handle_of}
use Rattle.sf_call.specs.Changes.{Change as change, changed}
use Rattle.sf_call.specs.Calls.{leave}
use Rattle.sf_call.proofs.Laws.{sorted_removed}
use Rattle.sf_inode.specs.declared.node.Node.{Node}
use Rattle.sf_inode.specs.declared.handle.OpenHandle.{OpenHandle}
use Rattle.sf_inode.specs.Nodes.{with_opened, is_unused}
use Rattle.sf_keeps.specs.Shows.{View, Shows}
use Rattle.sf_inode.specs.Stores.{StoreState, node_in, open_handle_at, handles_of, shown_handle, with_nodes, with_sessions, edited, released_if, after_close, handle_dropped, closed_by, closed, each_let_go, closed_each, closed_all}
use Rattle.sf_keeps.specs.Keeps.{view_of, Keeps}
use Rattle.sf_keeps.proofs.SetsAt.{SetsAt, number_keys, unchanged, gone_found, set_seen, value_at, removed_at}
use Rattle.sf_keeps.proofs.Shown.{nat_at_itself}
use Rattle.sf_keeps.proofs.Less.{handle_there}
use Rattle.sf_keeps.proofs.StoreLaws.{same_view}
use Rattle.sf_keeps.proofs.StoreHandles.{AreOrdered}
use Rattle.sf_keeps.proofs.Closing.{keeps_closed}
use Rattle.sf_keeps.proofs.Leaving.{removed_set, leave_closed, leave_none}

abbrev Handles : Type 0
Handles = List (ℕ × OpenHandle)

abbrev Sessions : Type 0
Sessions = List (ℕ × Handles)

-- ---- deleting an inode does not affect the handles
released_apart : (s : StoreState) (sessions : Sessions) (c : ℕ) (o : Option Node) → released_if (with_sessions s sessions) c o ≡ with_sessions (released_if s c o) sessions
released_apart s sessions c None = refl
released_apart s sessions c (Some node) =
    elim (is_unused node) as (λ b. (if b then with_nodes (with_sessions s sessions) (slice_set s.nodes c None) else with_sessions s sessions) ≡ with_sessions (if b then with_nodes s (slice_set s.nodes c None) else s) sessions) [ true ↦ refl | false ↦ refl ]

let_go_apart : (s : StoreState) (sessions : Sessions) (c : ℕ) → after_close (with_sessions s sessions) c ≡ with_sessions (after_close s c) sessions
let_go_apart s sessions c =
    let now = edited (λ node. with_opened (node.opens - 1) node) s c in
    released_apart now sessions c (node_in now.nodes c)

-- ---- the same handles by lookups
module _ (s : StoreState) (t : Tree) (k : Keeps s t) (new : Sessions) (same : (a b : ℕ) → open_handle_at (with_sessions s new) a b ≡ open_handle_at s a b) (sorted : T (is_sorted nat_cmp new)) (own : AreOrdered new) where
  keeps_same : Keeps (with_sessions s new) t
  keeps_same = record {
    shows = subst (λ (v : View). Shows v t) (sym (same_view (view_of s) (view_of (with_sessions s new)) (λ x m. refl) (λ x. refl) refl (λ a b. ap (option_map (shown_handle a)) (same a b)))) k.shows;
    entries = k.entries;
    linked = k.linked;
    bare = k.bare;
    counted = k.counted;
    led = λ a b x e. k.led a b x (sym (same a b) ∙ e);
    sessions = sorted;
    handles = own;
    numbers = k.numbers;
  }

module _ (session : ℕ) where
  abbrev here : ℕ → Bool
  here = is_at (nat_cmp session)

  -- a session that has no handle is left out
  module _ (s : StoreState) (t : Tree) (k : Keeps s t) (none : (number : ℕ) → open_handle_at s session number ≡ None) where
    left_none : leave t session ≡ t
    left_none = leave_none (view_of s) t k.shows session (λ number. ap (option_map (shown_handle session)) (none number))

    fewer : SetsAt (handles_of s) (handles_of (with_sessions s (remove_entry here s.sessions))) session None
    fewer = removed_at number_keys s.sessions session k.sessions

    same_handles : (a b : ℕ) → open_handle_at (with_sessions s (remove_entry here s.sessions)) a b ≡ open_handle_at s a b
    same_handles a b = unchanged (set_seen (option_and_then (λ (handles : Handles). lookup (is_at (nat_cmp b)) handles)) fewer) (none b) a

    still_ordered : AreOrdered (remove_entry here s.sessions)
    still_ordered a handles e = k.handles a handles (gone_found fewer a e).1

    keeps_left : Keeps (with_sessions s (remove_entry here s.sessions)) (leave t session)
    keeps_left = subst (λ (x : Tree). Keeps (with_sessions s (remove_entry here s.sessions)) x) (sym left_none)
        (keeps_same s t k (remove_entry here s.sessions) same_handles (sorted_removed nat_cmp here s.sessions k.sessions) still_ordered)

  -- the first handle is closed, and then the others
  module _ (s : StoreState) (t : Tree) (k : Keeps s t) (e : ℕ × OpenHandle) (rest : Handles) (is : handles_of s session ≡ Some (e ∷ rest)) where
    at : open_handle_at s session e.0 ≡ Some e.1
    at = ap (option_and_then (λ (handles : Handles). lookup (is_at (nat_cmp e.0)) handles)) is ∙ ap (λ b. cond b (Some e.1) (lookup (is_at (nat_cmp e.0)) rest)) (nat_at_itself e.0)

    abbrev less : Sessions
    less = set_value here s.sessions rest

    first_closed : closed s session e.0 ≡ with_sessions (after_close s e.1.node) less
    first_closed =
        ap (closed_by (handle_dropped s session e.0 (handles_of s session))) at
        ∙ ap (λ (o : Option Handles). after_close (handle_dropped s session e.0 o) e.1.node) is
        ∙ ap (λ (b : Bool). after_close (with_sessions s (set_value here s.sessions (cond b rest (e ∷ remove_entry (is_at (nat_cmp e.0)) rest)))) e.1.node) (nat_at_itself e.0)
        ∙ let_go_apart s less e.1.node

    rest_there : lookup here less ≡ Some rest
    rest_there = (value_at number_keys s.sessions session (e ∷ rest) rest is).at

    keeps_first : Keeps (with_sessions (after_close s e.1.node) less) (changed t (change.CloseHandle e.0))
    keeps_first = subst (λ (x : StoreState). Keeps x (changed t (change.CloseHandle e.0))) first_closed (keeps_closed s t k session e.0 e.1 at)

    there : handle_of t.handles e.0 ≡ Some (shown_handle session e.1)
    there = (handle_there t session e.0 (shown_handle session e.1) (k.shows.by.handles session e.0 ∙ ap (option_map (shown_handle session)) at)).0

    left : leave (changed t (change.CloseHandle e.0)) session ≡ leave t session
    left = leave_closed t session e.0 (shown_handle session e.1) there refl

    -- the same inodes, without the session
    same_nodes : with_sessions (with_sessions (after_close s e.1.node) less) (remove_entry here less) ≡ after_close (with_sessions s (remove_entry here s.sessions)) e.1.node
    same_nodes = ap (with_sessions (after_close s e.1.node)) (removed_set here s.sessions rest) ∙ sym (let_go_apart s (remove_entry here s.sessions) e.1.node)

  keeps_each : (handles : Handles) (s : StoreState) (t : Tree) → Keeps s t → handles_of s session ≡ Some handles → Keeps (each_let_go (with_sessions s (remove_entry here s.sessions)) handles) (leave t session)
  keeps_each [] s t k is = keeps_left s t k (λ number. ap (option_and_then (λ (handles : Handles). lookup (is_at (nat_cmp number)) handles)) is)
  keeps_each (e ∷ rest) s t k is =
      subst (λ (x : StoreState). Keeps (each_let_go x rest) (leave t session)) (same_nodes s t k e rest is)
      (subst (λ (x : Tree). Keeps (each_let_go (with_sessions (with_sessions (after_close s e.1.node) (less s t k e rest is)) (remove_entry here (less s t k e rest is))) rest) x) (left s t k e rest is)
      (keeps_each rest (with_sessions (after_close s e.1.node) (less s t k e rest is)) (changed t (change.CloseHandle e.0)) (keeps_first s t k e rest is) (rest_there s t k e rest is)))

  keeps_all : (s : StoreState) (t : Tree) → Keeps s t → (o : Option Handles) → handles_of s session ≡ o → Keeps (closed_each s session o) (leave t session)
  keeps_all s t k None is = subst (λ (x : Tree). Keeps s x) (sym (left_none s t k (λ number. ap (option_and_then (λ (handles : Handles). lookup (is_at (nat_cmp number)) handles)) is))) k
  keeps_all s t k (Some handles) is = keeps_each handles s t k is

pub keeps_closed_all : (s : StoreState) (t : Tree) → Keeps s t → (session : ℕ) → Keeps (closed_all s session) (leave t session)
keeps_closed_all s t k session = keeps_all session s t k (handles_of s session) refl
