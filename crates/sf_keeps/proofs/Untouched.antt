-- What a change leaves alone: the objects and the holders of other inodes.
use Rattle.std.specs.Prelude.{◌≡◌, ◌≢◌, ℕ, true, false, cond, List, option_map, option_and_then, slice_set, Option, Some, None, refl}
use Rattle.std.proofs.Common.{sym, ap, ◌∙◌}
use Rattle.sf_path.specs.Names.{Name}
use Rattle.sf_call.specs.Attributes.{Object}
use Rattle.sf_inode.specs.declared.node.Node.{Node}
use Rattle.sf_inode.specs.declared.node.Content.{Content}
use Rattle.sf_inode.specs.Nodes.{object_in, less_content, more_content, with_content, without_name, is_unused}
use Rattle.sf_inode.specs.Stores.{StoreState, EntryKey, node_in, child_of, shown_node, shown_of, holder_of, with_nodes, edited, edited_by, entry_taken, entry_put, released_if, forgotten, unlinked, unlinked_from, moved_entry, relinked, relinked_from, Inserted, entry_key, new_entry}
use Rattle.sf_keeps.proofs.SetsAt.{SetsAt, unchanged, set_seen}
use Rattle.sf_keeps.proofs.StoreLaws.{object_less, set_node, object_more}

-- the object of an inode, and its holder
abbrev Sight : Type 0
Sight = (ℕ × Object) × Option ℕ

abbrev sight : Node → Sight
sight node = (shown_node node, node.holder)

abbrev sights : List (Option Node) → ℕ → Option Sight
sights nodes i = option_map sight (node_in nodes i)

-- it determines both
shown_sight : (o : Option Node) → option_map (λ (w : Sight). w.0) (option_map sight o) ≡ option_map shown_node o
shown_sight None = refl
shown_sight (Some node) = refl

holder_sight : (o : Option Node) → option_and_then (λ (w : Sight). w.1) (option_map sight o) ≡ option_and_then (λ (node : Node). node.holder) o
holder_sight None = refl
holder_sight (Some node) = refl

abbrev Alike : List (Option Node) → List (Option Node) → ℕ → Type 0
Alike after before i = (shown_of after i ≡ shown_of before i) × (holder_of after i ≡ holder_of before i)

alike : (after before : List (Option Node)) (i : ℕ) → sights after i ≡ sights before i → Alike after before i
alike after before i e = (
  sym (shown_sight (node_in after i)) ∙ ap (option_map (λ (w : Sight). w.0)) e ∙ shown_sight (node_in before i),
  sym (holder_sight (node_in after i)) ∙ ap (option_and_then (λ (w : Sight). w.1)) e ∙ holder_sight (node_in before i),
)

-- ---- a changed inode
edited_as : (f : Node → Node) (s : StoreState) (id : ℕ) (o : Option Node) → node_in s.nodes id ≡ o → SetsAt (node_in s.nodes) (node_in (edited_by f s.nodes id o)) id (option_map f o)
edited_as f s id None e = record { at = e; beside = λ i ne. refl }
edited_as f s id (Some node) e = set_node s.nodes id node (Some (f node)) e

edited_at : (f : Node → Node) (s : StoreState) (id : ℕ) → SetsAt (node_in s.nodes) (node_in (edited f s id).nodes) id (option_map f (node_in s.nodes id))
edited_at f s id = edited_as f s id (node_in s.nodes id) refl

pub edited_apart : (f : Node → Node) (s : StoreState) (id i : ℕ) → i ≢ id → node_in (edited f s id).nodes i ≡ node_in s.nodes i
edited_apart f s id i other = (edited_at f s id).beside i (λ e. other (sym e))

pub edited_itself : (f : Node → Node) (s : StoreState) (id : ℕ) → node_in (edited f s id).nodes id ≡ option_map f (node_in s.nodes id)
edited_itself f s id = (edited_at f s id).at

sight_mapped : (f : Node → Node) → ((node : Node) → sight (f node) ≡ sight node) → (o : Option Node) → option_map sight (option_map f o) ≡ option_map sight o
sight_mapped f same None = refl
sight_mapped f same (Some node) = ap Some (same node)

sight_edited : (f : Node → Node) → ((node : Node) → sight (f node) ≡ sight node) → (s : StoreState) (id : ℕ) (i : ℕ) → sights (edited f s id).nodes i ≡ sights s.nodes i
sight_edited f same s id = unchanged (set_seen (option_map sight) (edited_at f s id)) (sym (sight_mapped f same (node_in s.nodes id)))

-- entries are not observable
sight_entries : (g : Content → Content) → ((node : Node) → object_in node.metadata (g node.content) ≡ object_in node.metadata node.content) → (node : Node) → sight (with_content g node) ≡ sight node
sight_entries g same node = λ i. ((node.label, same node i), node.holder)

sight_taken : (s : StoreState) (dir : ℕ) (n : Name) (i : ℕ) → sights (entry_taken s dir n).nodes i ≡ sights s.nodes i
sight_taken s dir n i = sight_edited (with_content (less_content n)) (sight_entries (less_content n) (λ node. object_less n node.metadata node.content)) s dir i

sight_put : (s : StoreState) (dir : ℕ) (n : Name) (id i : ℕ) → sights (entry_put s dir n id).nodes i ≡ sights s.nodes i
sight_put s dir n id i = sight_edited (with_content (more_content n id)) (sight_entries (more_content n id) (λ node. object_more n id node.metadata node.content)) s dir i

-- ---- a deleted inode
released_apart : (s : StoreState) (c i : ℕ) (o : Option Node) → node_in s.nodes c ≡ o → c ≢ i → node_in (released_if s c o).nodes i ≡ node_in s.nodes i
released_apart s c i None here other = refl
released_apart s c i (Some node) here other =
    elim (is_unused node) as (λ b. node_in (cond b (with_nodes s (slice_set s.nodes c None)) s).nodes i ≡ node_in s.nodes i) [
      | true ↦ (set_node s.nodes c node None here).beside i other
      | false ↦ refl
    ]

sight_forgotten : (s : StoreState) (c i : ℕ) → c ≢ i → sights (forgotten s c).nodes i ≡ sights s.nodes i
sight_forgotten s c i other =
    let unnamed = edited without_name s c in
    ap (option_map sight) (released_apart unnamed c i (node_in unnamed.nodes c) refl other) ∙ sight_edited without_name (λ node. refl) s c i

-- ---- the methods
pub inserted_alike : (old new : StoreState) (dir : ℕ) (n : Name) (id : ℕ) (node : Node) (i : ℕ) → Inserted old new (new_entry dir n id) node → i ≢ id → Alike new.nodes old.nodes i
inserted_alike old new dir n id node i did other = alike new.nodes old.nodes i (ap (option_map sight) (did.others i other) ∙ sight_put old dir n id i)

-- the entry did not refer to it
not_there : (o : Option ℕ) (c i : ℕ) → o ≡ Some c → o ≢ Some i → c ≢ i
not_there o c i e other h = other (e ∙ ap Some h)

sight_unlinked : (s : StoreState) (dir : ℕ) (n : Name) (i : ℕ) (o : Option ℕ) → child_of s.nodes dir n ≡ o → child_of s.nodes dir n ≢ Some i → sights (unlinked_from s dir n o).nodes i ≡ sights s.nodes i
sight_unlinked s dir n i None e other = refl
sight_unlinked s dir n i (Some c) e other = sight_forgotten (entry_taken s dir n) c i (not_there (child_of s.nodes dir n) c i e other) ∙ sight_taken s dir n i

pub unlinked_alike : (s : StoreState) (dir : ℕ) (n : Name) (i : ℕ) → child_of s.nodes dir n ≢ Some i → Alike (unlinked s dir n).nodes s.nodes i
unlinked_alike s dir n i other = alike (unlinked s dir n).nodes s.nodes i (sight_unlinked s dir n i (child_of s.nodes dir n) refl other)

sight_relinked : (s : StoreState) (from into : EntryKey) (i : ℕ) (o r : Option ℕ) → child_of s.nodes into.dir into.name ≡ r → child_of s.nodes into.dir into.name ≢ Some i → sights (relinked_from s from into o r).nodes i ≡ sights s.nodes i
sight_relinked s from into i None r e other = refl
sight_relinked s from into i (Some id) None e other = sight_taken (entry_put s into.dir into.name id) from.dir from.name i ∙ sight_put s into.dir into.name id i
sight_relinked s from into i (Some id) (Some c) e other =
    sight_forgotten (moved_entry s from into id) c i (not_there (child_of s.nodes into.dir into.name) c i e other) ∙ sight_taken (entry_put s into.dir into.name id) from.dir from.name i ∙ sight_put s into.dir into.name id i

pub relinked_alike : (s : StoreState) (dir : ℕ) (n : Name) (to : ℕ) (m : Name) (i : ℕ) → child_of s.nodes to m ≢ Some i → Alike (relinked s dir n to m).nodes s.nodes i
relinked_alike s dir n to m i other = alike (relinked s dir n to m).nodes s.nodes i (sight_relinked s (entry_key dir n) (entry_key to m) i (child_of s.nodes dir n) (child_of s.nodes to m) refl other)
