-- The counts in the inodes of a store, as functions: each inode's number, its links and its open
-- handles.
use Rattle.std.specs.Prelude.{◌≡◌, ◌≢◌, ℕ, nat_eq, Bool, false, cond, T, List, option_map, Option, Some, None}
use Rattle.std.proofs.Common.{sym, ap, subst, ◌∙◌, inl, inr}
use Rattle.std.proofs.lemmas.Bool.{cases_eq}
use Rattle.std.specs.List.{count_by}
use Rattle.std.specs.Ordering.{nat_cmp}
use Rattle.std.specs.FinMap.{is_sorted}
use Rattle.sf_path.specs.Names.{Name}
use Rattle.sf_call.specs.declared.handle.Handle.{Handle}
use Rattle.sf_call.specs.Tree.{Tree, handle_of, links}
use Rattle.sf_inode.specs.declared.node.Node.{Node}
use Rattle.sf_inode.specs.declared.handle.OpenHandle.{OpenHandle}
use Rattle.sf_keeps.specs.Steps.{EntryMap}
use Rattle.sf_keeps.specs.Shows.{Shows}
use Rattle.sf_inode.specs.Stores.{StoreState, node_in, child_of, open_handle_at, handles_of, with_sessions}
use Rattle.sf_keeps.specs.Keeps.{view_of, Keeps, times_open}
use Rattle.sf_keeps.proofs.Through.{was_there, found_as}
use Rattle.sf_keeps.proofs.SetsAt.{SetsAt, sets, set_found}
use Rattle.sf_keeps.proofs.Sound.{IsBare}
use Rattle.sf_keeps.proofs.InOrder.{InOrder}

-- an inode number, the number of its links, and that of its handles
abbrev pub Mark : Type 0
Mark = ℕ × ℕ × ℕ

abbrev pub Marks : Type 0
Marks = ℕ → Option Mark

abbrev pub mark_of : Node → Mark
mark_of node = (node.label, node.names, node.opens)

abbrev pub marks_of : List (Option Node) → Marks
marks_of nodes id = option_map mark_of (node_in nodes id)

pub record IsMarked (step : EntryMap) (marks : Marks) (paths count : ℕ → ℕ) (handles : ℕ → ℕ → Option OpenHandle) : Type 0 where
  pub bare : (id label opens : ℕ) → marks id ≡ Some (label, 0, opens) → IsBare step id
  pub linked : (id label names opens : ℕ) → marks id ≡ Some (label, names, opens) → names ≡ paths label
  pub counted : (id label names opens : ℕ) → marks id ≡ Some (label, names, opens) → opens ≡ count label
  pub led : (session number : ℕ) (h : OpenHandle) → handles session number ≡ Some h → (names : ℕ) × (opens : ℕ) × (marks h.node ≡ Some (h.label, names, opens))

pub mark_same : (a b : Mark) → ◌≡◌ {A = Option Mark} (Some a) (Some b) → a ≡ b
mark_same a b e = cc

marks_found : (nodes : List (Option Node)) (id label names opens : ℕ) → marks_of nodes id ≡ Some (label, names, opens)
    → (node : Node) × (node_in nodes id ≡ Some node) × (node.label ≡ label) × (node.names ≡ names) × (node.opens ≡ opens)
marks_found nodes id label names opens at =
    let w = found_as (node_in nodes id) at in (w.0, w.1, ap (λ (m : Mark). m.0) w.2, ap (λ (m : Mark). m.1) w.2, ap (λ (m : Mark). m.2) w.2)

-- ---- a store that represents a tree is counted
pub marked : (s : StoreState) (t : Tree) → Keeps s t → IsMarked (child_of s.nodes) (marks_of s.nodes) (links t.names) (times_open t) (open_handle_at s)
marked s t k = record {
  bare = λ id label opens e. let w = marks_found s.nodes id label 0 opens e in k.bare id w.0 w.1 w.3;
  linked = λ id label names opens e. let w = marks_found s.nodes id label names opens e in sym w.3 ∙ k.linked id w.0 w.1 ∙ ap (links t.names) w.2;
  counted = λ id label names opens e. let w = marks_found s.nodes id label names opens e in sym w.4 ∙ k.counted id w.0 w.1 ∙ ap (times_open t) w.2;
  led = λ session number h e. let w = k.led session number h e in (w.0.names, w.0.opens, ap (option_map mark_of) w.1.0 ∙ (λ i. Some (w.1.1 i, w.0.names, w.0.opens)));
}

-- The state after an event: the view has the tree, and these are the store's entries and counts.
-- The store then represents the tree, if the handles stay.
pub record LeavesMarked (s new : StoreState) (t after : Tree) : Type 0 where
  pub step : EntryMap
  pub marks : Marks
  pub shows : Shows (view_of new) after
  pub steps : (x : ℕ) (m : Name) → child_of new.nodes x m ≡ step x m
  pub says : (i : ℕ) → marks_of new.nodes i ≡ marks i
  pub sessions : new.sessions ≡ s.sessions
  pub handles : after.handles ≡ t.handles
  pub marked : IsMarked step marks (links after.names) (times_open t) (open_handle_at s)
  pub ordered : InOrder new.nodes

pub keeps_marked : (s new : StoreState) (t after : Tree) → Keeps s t → LeavesMarked s new t after → Keeps new after
keeps_marked s new t after k w =
    let sessions = w.sessions in
    let handles = w.handles in
    let is : IsMarked (child_of new.nodes) (marks_of new.nodes) (links after.names) (times_open t) (open_handle_at s) =
    subst (λ (e : EntryMap × Marks). IsMarked e.0 e.1 (links after.names) (times_open t) (open_handle_at s)) (sym (λ i. ((λ x n. w.steps x n i), (λ x. w.says x i)))) w.marked in
    let alike : (session number : ℕ) → open_handle_at new session number ≡ open_handle_at s session number = λ session number. ap (λ (hs : List (ℕ × List (ℕ × OpenHandle))). open_handle_at (with_sessions s hs) session number) sessions in
    record {
      shows = w.shows;
      entries = w.ordered;
      linked = λ id node at. is.linked id node.label node.names node.opens (ap (option_map mark_of) at);
      bare = λ id node at e. is.bare id node.label node.opens (ap (option_map mark_of) at ∙ (λ i. Some (node.label, e i, node.opens)));
      counted = λ id node at. is.counted id node.label node.names node.opens (ap (option_map mark_of) at) ∙ ap (λ (hs : List (ℕ × Handle)). count_by (λ (e : ℕ × Handle). nat_eq e.1.label node.label) hs) (sym handles);
      led = λ session number h e.
          let own = is.led session number h (sym (alike session number) ∙ e) in
          let f = marks_found new.nodes h.node h.label own.0 own.1 own.2 in
          (f.0, (f.1, f.2));
      sessions = subst (λ (x : List (ℕ × List (ℕ × OpenHandle))). T (is_sorted nat_cmp x)) (sym sessions) k.sessions;
      handles = λ session hs e. k.handles session hs (sym (ap (λ (x : List (ℕ × List (ℕ × OpenHandle))). handles_of (with_sessions s x) session) sessions) ∙ e);
      numbers = λ number h e. k.numbers number h (sym (ap (λ (hs : List (ℕ × Handle)). handle_of hs number) handles) ∙ e);
    }

-- ---- other entries
module _ {step : EntryMap} (new : EntryMap) {marks : Marks} {paths : ℕ → ℕ} (after : ℕ → ℕ) {count : ℕ → ℕ} {handles : ℕ → ℕ → Option OpenHandle} (m : IsMarked step marks paths count handles) where
  -- the same number of paths of each inode
  pub marked_same : ((id label opens : ℕ) → marks id ≡ Some (label, 0, opens) → IsBare step id → IsBare new id) → ((label : ℕ) → after label ≡ paths label) → IsMarked new marks after count handles
  marked_same bare same = record {
    bare = λ id label opens e. bare id label opens e (m.bare id label opens e);
    linked = λ id label names opens e. m.linked id label names opens e ∙ sym (same label);
    counted = m.counted;
    led = m.led;
  }

  -- another count of one inode, of its number, which an inode with a handle keeps; or none
  module _ (c : ℕ) {label names opens : ℕ} (at : marks c ≡ Some (label, names, opens)) (named : ℕ) (lost : Bool) (bare : IsBare new c)
      (bares : (id l o : ℕ) → marks id ≡ Some (l, 0, o) → IsBare step id → IsBare new id)
      (others : (id l b o : ℕ) → c ≢ id → marks id ≡ Some (l, b, o) → after l ≡ paths l) (own : named ≡ after label)
      (stays : nat_eq opens 0 ≡ false → lost ≡ false)
      (used : (session number : ℕ) (h : OpenHandle) → handles session number ≡ Some h → nat_eq (count h.label) 0 ≡ false) where
    abbrev pub left : Option Mark
    left = cond lost None (Some (label, named, opens))

    left_is : (v : Mark) → left ≡ Some v → ◌≡◌ {A = Mark} (label, named, opens) v
    left_is v e = mark_same (label, named, opens) v (was_there lost e)

    set : SetsAt marks (λ i. cond (nat_eq c i) left (marks i)) c left
    set = sets marks c left

    led_left : (session number : ℕ) (h : OpenHandle) → handles session number ≡ Some h → (b : ℕ) × (o : ℕ) × (cond (nat_eq c h.node) left (marks h.node) ≡ Some (h.label, b, o))
    led_left session number h e =
        let w = m.led session number h e in
        elim (cases_eq c h.node) [
          | inl f ↦
              let same = mark_same (label, names, opens) (h.label, w.0, w.1) (sym at ∙ ap marks f ∙ w.2) in
              let opened : nat_eq opens 0 ≡ false = ap (λ (z : ℕ). nat_eq z 0) (m.counted c label names opens at) ∙ ap (λ (z : Mark). nat_eq (count z.0) 0) same ∙ used session number h e in
              (named, opens, ap (λ (x : ℕ). cond (nat_eq c x) left (marks x)) (sym f) ∙ set.at ∙ ap (λ (z : Bool). cond z None (Some (label, named, opens))) (stays opened) ∙ (λ i. Some ((same i).0, named, opens)))
          | inr ne ↦ (w.0, w.1, set.beside h.node ne ∙ w.2)
        ]

    pub marked_left : IsMarked new (λ i. cond (nat_eq c i) left (marks i)) after count handles
    marked_left = record {
      bare = λ id l o e. elim (set_found set id e) [
        | inl f ↦ subst (λ (x : ℕ). IsBare new x) f.0 bare
        | inr f ↦ bares id l o f.1 (m.bare id l o f.1)
      ];
      linked = λ id l b o e. elim (set_found set id e) [
        | inl f ↦ let same = left_is (l, b, o) f.1 in sym (ap (λ (z : Mark). z.1) same) ∙ own ∙ ap (λ (z : Mark). after z.0) same
        | inr f ↦ m.linked id l b o f.1 ∙ sym (others id l b o f.0 f.1)
      ];
      counted = λ id l b o e. elim (set_found set id e) [
        | inl f ↦ let same = left_is (l, b, o) f.1 in sym (ap (λ (z : Mark). z.2) same) ∙ m.counted c label names opens at ∙ ap (λ (z : Mark). count z.0) same
        | inr f ↦ m.counted id l b o f.1
      ];
      led = led_left;
    }
