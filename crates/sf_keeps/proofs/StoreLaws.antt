-- The observable part of a store after each change of its inodes.
use Rattle.std.specs.Prelude.{◌≡◌, ◌≢◌, ℕ, suc, zero, ◌<◌, nat_eq, Bool, true, false, cond, ◌&&◌, List, [], ◌∷◌, ◌++◌, length, is_some, option_map, option_and_then, Option, Some, None, slice_set, refl}
use Rattle.std.proofs.Common.{sym, ap, subst, ◌∙◌, arith, get_or-set_same, get_or-set_other}
use Rattle.std.specs.Map.{lookup, remove_entry}
use Rattle.std.specs.BTreeMap.{is_at}
use Rattle.sf_path.specs.Names.{Name, Path}
use Rattle.sf_path.specs.Order.{same_name, path_cmp}
use Rattle.sf_call.specs.declared.metadata.Metadata.{Metadata}
use Rattle.sf_call.specs.Tree.{Tree, directory_metadata, object_of, is_used}
use Rattle.sf_call.specs.Changes.{changed}
use Rattle.sf_call.specs.Changes.Change.{SetObject, NewPath, GonePath}
use Rattle.sf_inode.specs.declared.node.Node.{Node}
use Rattle.sf_inode.specs.declared.node.Content.{Content}
use Rattle.sf_inode.specs.declared.node.Content.TheVariants as content
use Rattle.sf_inode.specs.declared.handle.OpenHandle.{OpenHandle}
use Rattle.sf_inode.specs.Nodes.{child_in, object_in, less_content, more_content, with_content, without_name, is_unused}
use Rattle.sf_keeps.specs.Steps.{walk, changed_step}
use Rattle.sf_keeps.specs.Shows.{View, Shows, is_directory_by, changed_shown, with_step, with_shown}
use Rattle.sf_inode.specs.Stores.{StoreState, node_in, child_of, shown_node, shown_of, edited_by, edited, entry_taken, entry_put, with_nodes, released_if, released, forgotten, unlinked_from, unlinked, Inserted, new_entry}
use Rattle.sf_keeps.specs.Keeps.{view_of}
use Rattle.sf_keeps.proofs.InOrder.{IsInOrder}
use Rattle.sf_keeps.proofs.Sound.{HasNoEntry, IsBare, is_directory_shown}
use Rattle.sf_keeps.proofs.SetsAt.{SetsAt, name_keys, nat_eq_itself, at_or_beside, set_is, unchanged, set_seen, set_by_test, inserted_at, removed_at, nat_eq_apart}
use Rattle.sf_keeps.proofs.Less.{IsClosed}
use Rattle.sf_keeps.proofs.Whole.{shows_set, shows_new, shows_gone, shows_gone_used}

-- views with equal parts are equal
pub same_view : (v w : View) → ((x : ℕ) (m : Name) → w.step x m ≡ v.step x m) → ((x : ℕ) → w.shown x ≡ v.shown x) → w.root ≡ v.root → ((a b : ℕ) → w.opens a b ≡ v.opens a b) → w ≡ v
same_view v w steps shown root opens = λ i. record { step = λ x m. steps x m i; shown = λ x. shown x i; root = root i; opens = λ a b. opens a b i }

pub along : (v w : View) (t : Tree) → ((x : ℕ) (m : Name) → w.step x m ≡ v.step x m) → ((x : ℕ) → w.shown x ≡ v.shown x) → w.root ≡ v.root → ((a b : ℕ) → w.opens a b ≡ v.opens a b) → Shows v t → Shows w t
along v w t steps shown root opens h = subst (λ (u : View). Shows u t) (sym (same_view v w steps shown root opens)) h

-- ---- a changed inode
within : (nodes : List (Option Node)) (id : ℕ) (node : Node) → node_in nodes id ≡ Some node → id < length nodes
within [] id node = λ e. cc
within (x ∷ xs) zero node = λ e. omega arith
within (x ∷ xs) (suc id) node = λ e. let h = within xs id node e in omega arith

pub set_node : (nodes : List (Option Node)) (id : ℕ) (node : Node) (v : Option Node) → node_in nodes id ≡ Some node → SetsAt (node_in nodes) (node_in (slice_set nodes id v)) id v
set_node nodes id node v at = record {
  at = get_or-set_same nodes id v None (within nodes id node at);
  beside = λ i ne. get_or-set_other nodes id i v None (λ e. ne (sym e));
}

pub node_in-set : (nodes : List (Option Node)) (id : ℕ) (node : Node) (v : Option Node) → node_in nodes id ≡ Some node → (i : ℕ) → node_in (slice_set nodes id v) i ≡ cond (nat_eq id i) v (node_in nodes i)
node_in-set nodes id node v at = set_is (set_node nodes id node v at)

pub edited_node : (f : Node → Node) (s : StoreState) (id : ℕ) (node : Node) → node_in s.nodes id ≡ Some node → SetsAt (node_in s.nodes) (node_in (edited f s id).nodes) id (Some (f node))
edited_node f s id node at = subst (λ (o : Option Node). SetsAt (node_in s.nodes) (node_in (edited_by f s.nodes id o)) id (Some (f node))) (sym at) (set_node s.nodes id node (Some (f node)) at)

-- the inode of an entry
abbrev pub entry_of : Name → Option Node → Option ℕ
entry_of m = option_and_then (λ node. child_in node.content m)

module _ {before after : ℕ → Option Node} {d : ℕ} {node node' : Node} (put : SetsAt before after d (Some node')) (at : before d ≡ Some node) where
  pub step_changed : (n : Name) (r : Option ℕ) → SetsAt (child_in node.content) (child_in node'.content) n r → (x : ℕ) (m : Name) → entry_of m (after x) ≡ changed_step (λ y k. entry_of k (before y)) d n r x m
  step_changed n r says = at_or_beside _ d (λ m. simp (put.at, at, nat_eq_itself) (set_by_test name_keys says m)) (λ x ne m. simp (put.beside x ne, nat_eq_apart d x ne))

  pub entry_same : ((m : Name) → child_in node'.content m ≡ child_in node.content m) → (x : ℕ) (m : Name) → entry_of m (after x) ≡ entry_of m (before x)
  entry_same says x m = unchanged (set_seen (entry_of m) put) (ap (entry_of m) at ∙ sym (says m)) x

  pub seen_same : {A : Type 0} (f : Node → A) → f node' ≡ f node → (x : ℕ) → option_map f (after x) ≡ option_map f (before x)
  seen_same f same = unchanged (set_seen (option_map f) put) (ap (option_map f) at ∙ ap Some (sym same))

pub shows_directory : (nodes : List (Option Node)) (d : ℕ) (node : Node) (es : List (Name × ℕ)) → node_in nodes d ≡ Some node → node.content ≡ content.Directory es → is_directory_by (shown_of nodes) d ≡ true
shows_directory nodes d node es here dir =
    ap (λ (v : Option Node). is_directory_shown (option_map shown_node v)) here ∙ ap (λ (z : Content). is_some (directory_metadata (object_in node.metadata z))) dir

-- ---- entries of a directory
pub less_says : (n : Name) (c : Content) → IsInOrder c → SetsAt (child_in c) (child_in (less_content n c)) n None
less_says n (content.File contents) h = record { at = refl; beside = λ m ne. refl }
less_says n (content.Directory es) h = removed_at name_keys es n h

pub more_says : (n : Name) (id : ℕ) (c : Content) (es : List (Name × ℕ)) → c ≡ content.Directory es → SetsAt (child_in c) (child_in (more_content n id c)) n (Some id)
more_says n id c es is = subst (λ (z : Content). SetsAt (child_in z) (child_in (more_content n id z)) n (Some id)) (sym is) (inserted_at name_keys es n id)

pub object_more : (n : Name) (id : ℕ) (m : Metadata) (c : Content) → object_in m (more_content n id c) ≡ object_in m c
object_more n id m (content.Directory es) = refl
object_more n id m (content.File contents) = refl

pub object_less : (n : Name) (m : Metadata) (c : Content) → object_in m (less_content n c) ≡ object_in m c
object_less n m (content.Directory es) = refl
object_less n m (content.File contents) = refl

-- removing an entry removes a step, and changes nothing else that is observable
pub view_taken : (s : StoreState) (d : ℕ) (n : Name) (node : Node) → IsInOrder node.content → node_in s.nodes d ≡ Some node → view_of (entry_taken s d n) ≡ with_step (view_of s) d n None
view_taken s d n node ordered here =
    let put = edited_node (with_content (less_content n)) s d node here in
    same_view (with_step (view_of s) d n None) (view_of (entry_taken s d n))
    (step_changed put here n None (less_says n node.content ordered))
    (seen_same put here shown_node (λ i. (node.label, object_less n node.metadata node.content i)))
    refl (λ a b. refl)

-- ---- another object
-- A change of an inode that keeps its entries and its number is a change of its object. An edited
-- inode keeps its entries, its number and its file type.
pub record EditsNode (f : Node → Node) (s : StoreState) (id : ℕ) : Type 0 where
  pub node : Node
  pub here : node_in s.nodes id ≡ Some node
  pub entries : (m : Name) → child_in (f node).content m ≡ child_in node.content m
  pub label : (f node).label ≡ node.label
  pub kind : is_some (directory_metadata (object_in node.metadata node.content)) ≡ is_some (directory_metadata (object_in (f node).metadata (f node).content))

pub shows_edited : (f : Node → Node) (s : StoreState) (t : Tree) (id : ℕ) → Shows (view_of s) t → (e : EditsNode f s id)
    → Shows (view_of (edited f s id)) (changed t (SetObject e.node.label (object_in (f e.node).metadata (f e.node).content)))
shows_edited f s t id h e =
    let node = e.node in
    let here = e.here in
    let o = object_in (f node).metadata (f node).content in
    let put = edited_node f s id node here in
    along (with_shown (view_of s) id (Some (node.label, o))) (view_of (edited f s id)) (changed t (SetObject node.label o))
    (entry_same put here e.entries)
    (λ x. set_is (set_seen (option_map shown_node) put) x ∙ ap (λ (l : ℕ). changed_shown (shown_of s.nodes) id (Some (l, o)) x) e.label)
    refl (λ a b. refl)
    (shows_set (view_of s) t h id node.label (object_in node.metadata node.content) o (ap (option_map shown_node) here) e.kind)

pub kind_metadata : (m k : Metadata) (c : Content) → is_some (directory_metadata (object_in m c)) ≡ is_some (directory_metadata (object_in k c))
kind_metadata m k (content.Directory es) = refl
kind_metadata m k (content.File contents) = refl

-- ---- a new inode with its entry
-- an inode with a path
pub record NodeOnPath (s : StoreState) : Type 0 where
  pub path : Path
  pub id : ℕ
  pub node : Node
  pub leads : walk (child_of s.nodes) s.root path ≡ Some id
  pub is_node : node_in s.nodes id ≡ Some node

-- a new inode without entries was inserted at an absent name of a directory
pub record InsertsNode (old new : StoreState) : Type 0 where
  pub above : NodeOnPath old
  pub entries : List (Name × ℕ)
  pub directory : above.node.content ≡ content.Directory entries
  pub name : Name
  pub free : lookup (same_name name) entries ≡ None
  pub id : ℕ
  pub node : Node
  pub inserted : Inserted old new (new_entry above.id name id) node
  pub bare : (m : Name) → child_in node.content m ≡ None

module _ (old new : StoreState) (i : InsertsNode old new) where
  abbrev mid : List (Option Node)
  mid = (entry_put old i.above.id i.name i.id).nodes

  with_entry : SetsAt (node_in old.nodes) (node_in mid) i.above.id (Some (with_content (more_content i.name i.id) i.above.node))
  with_entry = edited_node (with_content (more_content i.name i.id)) old i.above.id i.above.node i.above.is_node

  pub inserted_node : SetsAt (node_in mid) (node_in new.nodes) i.id (Some i.node)
  inserted_node = record { at = i.inserted.at; beside = λ k ne. i.inserted.others k (λ e. ne (sym e)) }

  pub steps_inserted : (x : ℕ) (m : Name) → child_of new.nodes x m ≡ changed_step (child_of old.nodes) i.above.id i.name (Some i.id) x m
  steps_inserted x m =
      let none : node_in mid i.id ≡ None = with_entry.beside i.id (λ e. let f = ap (node_in old.nodes) e in let g = i.inserted.fresh in let h = i.above.is_node in cc) ∙ i.inserted.fresh in
      unchanged (set_seen (entry_of m) inserted_node) (ap (entry_of m) none ∙ sym (i.bare m)) x
      ∙ step_changed with_entry i.above.is_node i.name (Some i.id) (more_says i.name i.id i.above.node.content i.entries i.directory) x m

  pub shows_inserted : (t : Tree) → Shows (view_of old) t → object_of t.objects i.node.label ≡ None
      → Shows (view_of new) (changed t (NewPath (i.above.path ++ i.name ∷ []) i.node.label (object_in i.node.metadata i.node.content)))
  shows_inserted t h fresh =
      let d = i.above.id in
      let above = i.above.node in
      let o = object_in i.node.metadata i.node.content in
      let is = shows_directory old.nodes d above i.entries i.above.is_node i.directory in
      along (with_step (with_shown (view_of old) i.id (Some (shown_node i.node))) d i.name (Some i.id)) (view_of new) (changed t (NewPath (i.above.path ++ i.name ∷ []) i.node.label o))
      steps_inserted
      (λ x. set_is (set_seen (option_map shown_node) inserted_node) x
      ∙ ap (cond (nat_eq i.id x) (Some (shown_node i.node))) (seen_same with_entry i.above.is_node shown_node (λ j. (above.label, object_more i.name i.id above.metadata above.content j)) x))
      i.inserted.root
      (λ a b. ap (λ (hs : List (ℕ × List (ℕ × OpenHandle))). (view_of (record { nodes = new.nodes; root = new.root; sessions = hs; look_ups = new.look_ups })).opens a b) i.inserted.sessions)
      (shows_new (view_of old) t h i.above.path d i.name i.id i.node.label o i.above.leads is
      (ap (entry_of i.name) i.above.is_node ∙ ap (λ (z : Content). child_in z i.name) i.directory ∙ i.free) (ap (option_map shown_node) i.inserted.fresh) fresh)

-- ---- a deleted inode
pub steps_dropped : {before after : ℕ → Option Node} {c : ℕ} → SetsAt before after c None → ((m : Name) → entry_of m (before c) ≡ None) → (x : ℕ) (m : Name) → entry_of m (after x) ≡ entry_of m (before x)
steps_dropped put bare x m = unchanged (set_seen (entry_of m) put) (bare m) x

-- an inode is changed in what is not observable, and deleted if it is unused
module _ (f : Node → Node) (s : StoreState) (c : ℕ) (node : Node) (here : node_in s.nodes c ≡ Some node) (entries : (m : Name) → child_in (f node).content m ≡ child_in node.content m) (same : shown_node (f node) ≡ shown_node node) where
  pub changed_there : node_in (edited f s c).nodes c ≡ Some (f node)
  changed_there = (edited_node f s c node here).at

  pub view_unseen : view_of (edited f s c) ≡ view_of s
  view_unseen = same_view (view_of s) (view_of (edited f s c))
      (entry_same (edited_node f s c node here) here entries) (seen_same (edited_node f s c node here) here shown_node same)
      refl (λ a b. refl)

  pub view_stays : is_unused (f node) ≡ false → view_of (released (edited f s c) c) ≡ view_of s
  view_stays used =
      ap (λ (o : Option Node). view_of (released_if (edited f s c) c o)) changed_there
      ∙ ap (λ (b : Bool). view_of (cond b (with_nodes (edited f s c) (slice_set (edited f s c).nodes c None)) (edited f s c))) used ∙ view_unseen

  pub view_goes : IsBare (child_of s.nodes) c → is_unused (f node) ≡ true → view_of (released (edited f s c) c) ≡ with_shown (view_of s) c None
  view_goes bare unused =
      let put = set_node (edited f s c).nodes c (f node) None changed_there in
      let bare_now : IsBare (child_of (edited f s c).nodes) c = λ m. ap (λ (v : View). v.step c m) view_unseen ∙ bare m in
      ap (λ (o : Option Node). view_of (released_if (edited f s c) c o)) changed_there
      ∙ ap (λ (b : Bool). view_of (cond b (with_nodes (edited f s c) (slice_set (edited f s c).nodes c None)) (edited f s c))) unused
      ∙ same_view (with_shown (view_of (edited f s c)) c None) (view_of (with_nodes (edited f s c) (slice_set (edited f s c).nodes c None)))
      (steps_dropped put bare_now) (set_is (set_seen (option_map shown_node) put))
      refl (λ a b. refl)
      ∙ ap (λ (v : View). with_shown v c None) view_unseen

-- ---- an entry removed, and its inode deleted
module _ (s : StoreState) (t : Tree) (h : Shows (view_of s) t) (p : Path) (d : ℕ) (n : Name) (c : ℕ) (above node : Node)
    (ordered : IsInOrder above.content) (at : walk (child_of s.nodes) s.root p ≡ Some d) (here : node_in s.nodes d ≡ Some above) (there : child_of s.nodes d n ≡ Some c) (is : node_in s.nodes c ≡ Some node) (bare : IsBare (child_of s.nodes) c) where
  apart : d ≢ c
  apart e = let f = ap (λ (x : ℕ). child_of s.nodes x n) e in let g = bare n in cc

  still : node_in (entry_taken s d n).nodes c ≡ Some node
  still = (edited_node (with_content (less_content n)) s d above here).beside c apart ∙ is

  view_less : view_of (entry_taken s d n) ≡ with_step (view_of s) d n None
  view_less = view_taken s d n above ordered here

  bare_less : IsBare (child_of (entry_taken s d n).nodes) c
  bare_less m = ap (λ (v : View). v.step c m) view_less ∙ ap (λ b. cond (b && same_name n m) None (child_of s.nodes c m)) (nat_eq_apart d c apart) ∙ bare m

  is_unlinked : unlinked s d n ≡ forgotten (entry_taken s d n) c
  is_unlinked = ap (unlinked_from s d n) there

  pub shows_unlinked_gone : HasNoEntry (changed_step (child_of s.nodes) d n None) c → IsClosed (view_of s) node.label → is_unused (without_name node) ≡ true → Shows (view_of (unlinked s d n)) (changed t (GonePath (p ++ n ∷ [])))
  shows_unlinked_gone free closed unused =
      let bare_step : IsBare (changed_step (child_of s.nodes) d n None) c = λ m. sym (ap (λ (v : View). v.step c m) view_less) ∙ bare_less m in
      subst (λ (v : View). Shows v (changed t (GonePath (p ++ n ∷ []))))
      (sym (ap view_of is_unlinked ∙ view_goes without_name (entry_taken s d n) c node still (λ m. refl) refl bare_less unused ∙ ap (λ (v : View). with_shown v c None) view_less))
      (shows_gone (view_of s) t h p d n c node.label (object_in node.metadata node.content) at there bare (ap (option_map shown_node) is) free bare_step closed)

  pub shows_unlinked_used : is_used (remove_entry (is_at (path_cmp (p ++ n ∷ []))) t.names) t.handles node.label ≡ true → is_unused (without_name node) ≡ false → Shows (view_of (unlinked s d n)) (changed t (GonePath (p ++ n ∷ [])))
  shows_unlinked_used used kept =
      subst (λ (v : View). Shows v (changed t (GonePath (p ++ n ∷ []))))
      (sym (ap view_of is_unlinked ∙ view_stays without_name (entry_taken s d n) c node still (λ m. refl) refl kept ∙ view_less))
      (shows_gone_used (view_of s) t h p d n c node.label (object_in node.metadata node.content) at there bare (ap (option_map shown_node) is) used)
