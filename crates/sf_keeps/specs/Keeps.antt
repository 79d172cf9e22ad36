-- The abstraction relation between a store and a tree: the store represents the tree, and the
-- counts in its inodes agree with it.
use Rattle.std.specs.Prelude.{◌≡◌, ℕ, ◌<◌, ◌^◌, nat_eq, T, List, Option, Some, None, option_map}
use Rattle.std.specs.List.{count_by}
use Rattle.std.specs.Ordering.{nat_cmp}
use Rattle.std.specs.FinMap.{is_sorted}
use Rattle.sf_path.specs.Names.{Name}
use Rattle.sf_path.specs.Order.{name_cmp}
use Rattle.sf_call.specs.declared.handle.Handle.{Handle}
use Rattle.sf_call.specs.Tree.{Tree, handle_of, links}
use Rattle.sf_inode.specs.declared.node.Node.{Node}
use Rattle.sf_inode.specs.declared.handle.OpenHandle.{OpenHandle}
use Rattle.sf_keeps.specs.Shows.{View, Shows}
use Rattle.sf_inode.specs.Stores.{StoreState, node_in, child_of, node_entries, shown_of, handles_of, open_handle_at, shown_handle}

-- the observable part of a store
abbrev pub view_of : StoreState → View
view_of s = record {
  step = child_of s.nodes;
  shown = shown_of s.nodes;
  root = s.root;
  opens = λ session number. option_map (shown_handle session) (open_handle_at s session number);
}

-- the number of open handles of an object
abbrev pub times_open : Tree → ℕ → ℕ
times_open t label = count_by (λ e. nat_eq e.1.label label) t.handles

-- an inode that no entry links, that is not the root, and that has no entries
pub record IsUnlinked (s : StoreState) (id : ℕ) : Type 0 where
  pub free : (x : ℕ) (n : Name) → child_of s.nodes x n ≡ Some id → ⊥
  pub other : s.root ≡ id → ⊥
  pub bare : (n : Name) → child_of s.nodes id n ≡ None

-- The store represents the tree. A directory's entries are in name order, without duplicates. An
-- inode counts its links and open handles, and has no entries if it has no link. A handle refers to
-- an existing inode with its inode number. Handles are in order, and their numbers are above 0 and
-- fit 64 bits.
pub record Keeps (s : StoreState) (t : Tree) : Type 0 where
  pub shows : Shows (view_of s) t
  pub entries : (id : ℕ) → T (is_sorted name_cmp (node_entries s.nodes id))
  pub linked : (id : ℕ) (node : Node) → node_in s.nodes id ≡ Some node
      → node.names ≡ links t.names node.label
  pub bare : (id : ℕ) (node : Node) → node_in s.nodes id ≡ Some node → node.names ≡ 0
      → (n : Name) → child_of s.nodes id n ≡ None
  pub counted : (id : ℕ) (node : Node) → node_in s.nodes id ≡ Some node
      → node.opens ≡ times_open t node.label
  pub led : (session number : ℕ) (h : OpenHandle) → open_handle_at s session number ≡ Some h
      → (node : Node) × ((node_in s.nodes h.node ≡ Some node) × (node.label ≡ h.label))
  pub sessions : T (is_sorted nat_cmp s.sessions)
  pub handles : (session : ℕ) (handles : List (ℕ × OpenHandle))
      → handles_of s session ≡ Some handles → T (is_sorted nat_cmp handles)
  pub numbers : (number : ℕ) (h : Handle) → handle_of t.handles number ≡ Some h
      → (0 < number) × (number < 2 ^ 64)

-- an inode existed before, with the same holder, inode number and content
abbrev pub WasThere : Option Node → Node → Type 0
WasThere None node = ⊥
WasThere (Some was) node =
    (node.holder ≡ was.holder) × (node.label ≡ was.label) × (node.content ≡ was.content)

-- no inode is new or changed, but inodes may be deleted
pub record KeepsNodes (old new : StoreState) : Type 0 where
  pub node : (id : ℕ) (node : Node) → node_in new.nodes id ≡ Some node
      → WasThere (node_in old.nodes id) node
