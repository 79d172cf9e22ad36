-- What a store represents after one inode was changed and no entry.
use Rattle.std.specs.Prelude.{◌≡◌, ℕ, true, false, List, is_some, Option, Some, None, refl}
use Rattle.std.specs.Option.{option_map_or}
use Rattle.std.proofs.Common.{sym, ap, subst, ◌∙◌}
use Rattle.sf_path.specs.Names.{Name, Path}
use Rattle.sf_call.specs.declared.metadata.Metadata.{Metadata}
use Rattle.sf_call.specs.Attributes.{Object}
use Rattle.sf_call.specs.Attributes.Object.{File}
use Rattle.sf_call.specs.Tree.{Tree, directory_metadata, links}
use Rattle.sf_call.specs.Changes.{changed}
use Rattle.sf_call.specs.Changes.Change.{SetObject}
use Rattle.sf_inode.specs.declared.node.Node.{Node}
use Rattle.sf_inode.specs.declared.node.Content.{Content}
use Rattle.sf_inode.specs.declared.node.Content.TheVariants as content
use Rattle.sf_block.specs.Contents.{FileBytes}
use Rattle.sf_inode.specs.Nodes.{child_in, object_in, is_file_content, with_content, with_metadata, with_file, with_left, with_holder}
use Rattle.sf_keeps.specs.Shows.{View, Shows}
use Rattle.sf_inode.specs.Stores.{StoreState, node_in, child_of, shown_node, edited, edited_by, with_nodes, looked_up, is_file_at, file_set, left_set}
use Rattle.sf_keeps.specs.Keeps.{view_of, Keeps}
use Rattle.sf_keeps.proofs.StoreLaws.{entry_same, shows_edited, view_unseen, kind_metadata, edited_node, seen_same}
use Rattle.sf_keeps.proofs.StoreBytes.{entry_stored, kind_stored, entry_left, object_left}
use Rattle.sf_keeps.proofs.InOrder.{IsInOrder, node_in_order, in_order_put, stored_in_order, left_in_order}
use Rattle.sf_keeps.proofs.Counted.{Mark, mark_of, marks_of, marked, keeps_marked, marked_same}

module _ (f : Node → Node) (s : StoreState) (t : Tree) (id : ℕ) (node : Node) (k : Keeps s t) (here : node_in s.nodes id ≡ Some node)
    (entries : (m : Name) → child_in (f node).content m ≡ child_in node.content m) (same : mark_of (f node) ≡ mark_of node) (own : IsInOrder (f node).content) where
  keeps_by : (after : Tree) → after.names ≡ t.names → after.handles ≡ t.handles → Shows (view_of (edited f s id)) after → Keeps (edited f s id) after
  keeps_by after names handles shows =
      keeps_marked s (edited f s id) t after k (record {
        step = child_of s.nodes;
        marks = marks_of s.nodes;
        shows = shows;
        steps = entry_same (edited_node f s id node here) here entries;
        says = seen_same (edited_node f s id node here) here mark_of same;
        sessions = refl;
        handles = handles;
        marked = marked_same (child_of s.nodes) (links after.names) (marked s t k) (λ i l o e bare. bare) (λ label. ap (λ (ns : List (Path × ℕ)). links ns label) names);
        ordered = in_order_put (edited_node f s id node here) k.entries own;
      })

  -- another object of the inode
  pub keeps_edited : is_some (directory_metadata (object_in node.metadata node.content)) ≡ is_some (directory_metadata (object_in (f node).metadata (f node).content))
      → Keeps (edited f s id) (changed t (SetObject node.label (object_in (f node).metadata (f node).content)))
  keeps_edited kind = keeps_by (changed t (SetObject node.label (object_in (f node).metadata (f node).content))) refl refl
      (shows_edited f s t id k.shows (record { node = node; here = here; entries = entries; label = ap (λ (w : Mark). w.0) same; kind = kind }))

  -- the same object
  pub keeps_unseen : shown_node (f node) ≡ shown_node node → Keeps (edited f s id) t
  keeps_unseen alike = keeps_by t refl refl (subst (λ (v : View). Shows v t) (sym (view_unseen f s id node here entries alike)) k.shows)

-- other metadata
pub keeps_metadata : (f : Metadata → Metadata) (s : StoreState) (t : Tree) (id : ℕ) (node : Node) → Keeps s t → node_in s.nodes id ≡ Some node
    → Keeps (edited (with_metadata f) s id) (changed t (SetObject node.label (object_in (f node.metadata) node.content)))
keeps_metadata f s t id node k here = keeps_edited (with_metadata f) s t id node k here (λ m. refl) refl (node_in_order s.nodes id node k.entries here) (kind_metadata node.metadata (f node.metadata) node.content)

-- a file in a slot is an inode
file_there : (nodes : List (Option Node)) (id : ℕ) (node : Node) → node_in nodes id ≡ Some node → is_file_at nodes id ≡ true → (contents : FileBytes) × (node.content ≡ content.File contents)
file_there nodes id node here file =
    let is : is_file_content node.content ≡ true = sym (ap (λ (o : Option Node). option_map_or (λ (it : Node). is_file_content it.content) o false) here) ∙ file in
    elim node.content as (λ c. is_file_content c ≡ true → (contents : FileBytes) × (c ≡ content.File contents)) [
      | content.Directory es ↦ λ e. absurd (cc)
      | content.File contents ↦ λ e. (contents, refl)
    ] is

-- other bytes of a file
pub keeps_bytes : (new : FileBytes) (s : StoreState) (t : Tree) (id : ℕ) (node : Node) → Keeps s t → node_in s.nodes id ≡ Some node → is_file_at s.nodes id ≡ true
    → Keeps (file_set s id new) (changed t (SetObject node.label (File node.metadata new.bytes)))
keeps_bytes new s t id node k here file =
    let w = file_there s.nodes id node here file in
    subst (λ (o : Object). Keeps (file_set s id new) (changed t (SetObject node.label o)))
    (ap (λ (c : Content). object_in node.metadata (with_file new c)) w.1)
    (keeps_edited (with_content (with_file new)) s t id node k here (entry_stored new node.content) refl (stored_in_order new node.content (node_in_order s.nodes id node k.entries here)) (kind_stored new node.metadata node.content))

-- ---- changes that are not observable
-- editing an absent inode changes nothing
keeps_none : (f : Node → Node) (s : StoreState) (t : Tree) (id : ℕ) → Keeps s t → node_in s.nodes id ≡ None → Keeps (edited f s id) t
keeps_none f s t id k none = subst (λ (x : StoreState). Keeps x t) (sym (ap (λ (o : Option Node). with_nodes s (edited_by f s.nodes id o)) none)) k

-- an edit of an optional inode that is not observable
keeps_always : (f : Node → Node) (s : StoreState) (t : Tree) (id : ℕ) → Keeps s t
    → ((node : Node) → node_in s.nodes id ≡ Some node → (m : Name) → child_in (f node).content m ≡ child_in node.content m) → ((node : Node) → mark_of (f node) ≡ mark_of node)
    → ((node : Node) → IsInOrder node.content → IsInOrder (f node).content)
    → ((node : Node) → node_in s.nodes id ≡ Some node → shown_node (f node) ≡ shown_node node) → Keeps (edited f s id) t
keeps_always f s t id k entries same own alike = elim (node_in s.nodes id) as (λ o. node_in s.nodes id ≡ o → Keeps (edited f s id) t) [
  | None ↦ λ e. keeps_none f s t id k e
  | Some node ↦ λ e. keeps_unseen f s t id node k e (entries node e) (same node) (own node (node_in_order s.nodes id node k.entries e)) (alike node e)
] refl

pub keeps_held : (r : Option ℕ) (s : StoreState) (t : Tree) (id : ℕ) → Keeps s t → Keeps (edited (with_holder r) s id) t
keeps_held r s t id k = keeps_always (with_holder r) s t id k (λ node e m. refl) (λ node. refl) (λ node h. h) (λ node e. refl)

-- copying is not observable
pub keeps_left : (left : ℕ) (s : StoreState) (t : Tree) (id : ℕ) → Keeps s t → Keeps (left_set s id left) t
keeps_left left s t id k = keeps_always (with_content (with_left left)) s t id k (λ node e m. entry_left left node.content m) (λ node. refl) (λ node h. left_in_order left node.content h)
    (λ node e. λ i. (node.label, object_left left node.metadata node.content i))

pub keeps_looked : (s : StoreState) (t : Tree) → Keeps s t → Keeps (looked_up s) t
keeps_looked s t k = keeps_marked s (looked_up s) t t k (record {
  step = child_of s.nodes;
  marks = marks_of s.nodes;
  shows = k.shows;
  steps = λ x m. refl;
  says = λ i. refl;
  sessions = refl;
  handles = refl;
  marked = marked s t k;
  ordered = k.entries;
})
