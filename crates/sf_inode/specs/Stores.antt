-- The state of a store in contracts, and the effect of each operation.
use Rattle.std.specs.Prelude.{◌≡◌, ◌≢◌, ℕ, ◌+◌, ◌-◌, ◌^◌, min, Bool, false, if◌then◌else◌, List, [], ◌∷◌, fold, Option, Some, None, option_map, option_and_then, slice_index_or, slice_set, length}
use Rattle.std.specs.Option.{option_map_or}
use Rattle.std.specs.Ordering.{nat_cmp}
use Rattle.std.specs.Map.{lookup, set_value, remove_entry}
use Rattle.std.specs.BTreeMap.{is_at, insert_entry}
use Rattle.sf_path.specs.Names.{Name}
use Rattle.sf_block.specs.Contents.{FileBytes, complete}
use Rattle.sf_call.specs.declared.handle.Handle.{Handle}
use Rattle.sf_call.specs.Attributes.{Object, made_at}
use Rattle.sf_inode.specs.declared.node.Node.{Node}
use Rattle.sf_inode.specs.declared.node.Content.TheVariants as content
use Rattle.sf_inode.specs.declared.handle.OpenHandle.{OpenHandle}
use Rattle.sf_inode.specs.declared.handle.Marks.{Marks}
use Rattle.sf_inode.specs.Nodes.{child_in, entries_in, object_in, is_directory_content, is_bare_content, less_content, more_content, bytes_in, blocks_left_in, is_file_content, with_file, with_left, with_content, with_name, without_name, with_opened, is_unused}

-- the inode (node) in each slot, if any; the open handles of each session by number; and the number
-- of lookups
pub record StoreState : Type 0 where
  pub nodes : List (Option Node)
  pub root : ℕ
  pub sessions : List (ℕ × List (ℕ × OpenHandle))
  pub look_ups : ℕ

abbrev pub node_in : List (Option Node) → ℕ → Option Node
node_in nodes id = slice_index_or nodes id None

abbrev pub child_of : List (Option Node) → ℕ → Name → Option ℕ
child_of nodes id n = option_and_then (λ node. child_in node.content n) (node_in nodes id)

abbrev pub shown_node : Node → ℕ × Object
shown_node node = (node.label, object_in node.metadata node.content)

abbrev pub shown_of : List (Option Node) → ℕ → Option (ℕ × Object)
shown_of nodes id = option_map shown_node (node_in nodes id)

abbrev pub holder_of : List (Option Node) → ℕ → Option ℕ
holder_of nodes id = option_and_then (λ node. node.holder) (node_in nodes id)

-- the handle with this number in the session
abbrev pub open_handle_at : StoreState → ℕ → ℕ → Option OpenHandle
open_handle_at s session number =
    option_and_then (λ handles. lookup (is_at (nat_cmp number)) handles)
    (lookup (is_at (nat_cmp session)) s.sessions)

abbrev pub shown_handle : ℕ → OpenHandle → Handle
shown_handle session h = record {
  session = session;
  label = h.label;
  read = h.marks.read;
  write = h.marks.write;
  append = h.marks.append;
  listed = h.listed;
}

abbrev pub with_nodes : StoreState → List (Option Node) → StoreState
with_nodes s nodes = record s { nodes = nodes }

abbrev pub looked_up : StoreState → StoreState
looked_up s = record s { look_ups = min (s.look_ups + 1) (2 ^ 64 - 1) }

-- with an inode changed, if it exists
abbrev pub edited_by : (Node → Node) → List (Option Node) → ℕ → Option Node → List (Option Node)
edited_by f nodes id None = nodes
edited_by f nodes id (Some node) = slice_set nodes id (Some (f node))

abbrev pub edited : (Node → Node) → StoreState → ℕ → StoreState
edited f s id = with_nodes s (edited_by f s.nodes id (node_in s.nodes id))

abbrev pub entry_taken : StoreState → ℕ → Name → StoreState
entry_taken s dir n = edited (with_content (less_content n)) s dir

abbrev pub entry_put : StoreState → ℕ → Name → ℕ → StoreState
entry_put s dir n id = edited (with_content (more_content n id)) s dir

-- with an inode deleted if it has neither link nor open handle
abbrev pub released_if : StoreState → ℕ → Option Node → StoreState
released_if s id None = s
released_if s id (Some node) =
    if is_unused node then with_nodes s (slice_set s.nodes id None) else s

abbrev pub released : StoreState → ℕ → StoreState
released s id = released_if s id (node_in s.nodes id)

-- an inode loses a link
abbrev pub forgotten : StoreState → ℕ → StoreState
forgotten s id = released (edited without_name s id) id

-- an inode loses an open handle
abbrev pub after_close : StoreState → ℕ → StoreState
after_close s id = released (edited (λ node. with_opened (node.opens - 1) node) s id) id

abbrev pub unlinked_from : StoreState → ℕ → Name → Option ℕ → StoreState
unlinked_from s dir n None = s
unlinked_from s dir n (Some id) = forgotten (entry_taken s dir n) id

-- the number of links of an inode
abbrev pub link_count_at : List (Option Node) → ℕ → ℕ
link_count_at nodes id = option_map_or (λ node. node.names) (node_in nodes id) 0

-- a new entry links an inode
abbrev pub linked : StoreState → ℕ → Name → ℕ → StoreState
linked s dir n id = edited with_name (entry_put s dir n id) id

-- an entry is removed, and its inode is deleted if it is unused
abbrev pub unlinked : StoreState → ℕ → Name → StoreState
unlinked s dir n = unlinked_from s dir n (child_of s.nodes dir n)

-- The key of an entry: a directory, and a name.
pub record EntryKey : Type 0 where
  pub dir : ℕ
  pub name : Name

abbrev pub entry_key : ℕ → Name → EntryKey
entry_key dir name = record { dir = dir; name = name }

-- An entry is moved to a new name, or replaces the entry of another inode, which is deleted if it
-- is unused.
abbrev pub moved_entry : StoreState → EntryKey → EntryKey → ℕ → StoreState
moved_entry s old new id = entry_taken (entry_put s new.dir new.name id) old.dir old.name

abbrev pub relinked_from : StoreState → EntryKey → EntryKey → Option ℕ → Option ℕ → StoreState
relinked_from s old new None target = s
relinked_from s old new (Some id) None = moved_entry s old new id
relinked_from s old new (Some id) (Some target) = forgotten (moved_entry s old new id) target

abbrev pub relinked : StoreState → ℕ → Name → ℕ → Name → StoreState
relinked s old_dir old_name new_dir new_name =
    relinked_from s (entry_key old_dir old_name) (entry_key new_dir new_name)
    (child_of s.nodes old_dir old_name) (child_of s.nodes new_dir new_name)

-- the bytes of a file; none for another slot
abbrev pub bytes_of : List (Option Node) → ℕ → List ℕ
bytes_of nodes id = option_map_or (λ node. bytes_in node.content) (node_in nodes id) []

-- the number of blocks of a file that are still to be copied
abbrev pub blocks_left_at : List (Option Node) → ℕ → ℕ
blocks_left_at nodes id = option_map_or (λ node. blocks_left_in node.content) (node_in nodes id) 0

-- the entries of a directory, in name order; a file has none
abbrev pub node_entries : List (Option Node) → ℕ → List (Name × ℕ)
node_entries nodes id = option_map_or (λ node. entries_in node.content) (node_in nodes id) []

abbrev pub is_file_at : List (Option Node) → ℕ → Bool
is_file_at nodes id = option_map_or (λ node. is_file_content node.content) (node_in nodes id) false

-- the size of a file; a directory has none
abbrev pub file_size : List (Option Node) → ℕ → Option ℕ
file_size nodes id = if is_file_at nodes id then Some (length (bytes_of nodes id)) else None

abbrev pub is_directory_at : List (Option Node) → ℕ → Bool
is_directory_at nodes id =
    option_map_or (λ node. is_directory_content node.content) (node_in nodes id) false

-- whether it is a file or an empty directory
abbrev pub is_bare_at : List (Option Node) → ℕ → Bool
is_bare_at nodes id = option_map_or (λ node. is_bare_content node.content) (node_in nodes id) false

-- with other contents of a file
abbrev pub file_set : StoreState → ℕ → FileBytes → StoreState
file_set s id new = edited (with_content (with_file new)) s id

-- with other bytes of a file, all of them copied
abbrev pub bytes_set : StoreState → ℕ → List ℕ → StoreState
bytes_set s id new = file_set s id (complete new)

-- with the number of blocks of a file that are still to be copied
abbrev pub left_set : StoreState → ℕ → ℕ → StoreState
left_set s id left = edited (with_content (with_left left)) s id

-- ---- handles
abbrev pub with_sessions : StoreState → List (ℕ × List (ℕ × OpenHandle)) → StoreState
with_sessions s sessions = record s { sessions = sessions }

abbrev pub handles_of : StoreState → ℕ → Option (List (ℕ × OpenHandle))
handles_of s session = lookup (is_at (nat_cmp session)) s.sessions

abbrev pub handles_put : StoreState → ℕ → ℕ → OpenHandle → Option (List (ℕ × OpenHandle))
    → StoreState
handles_put s session number h None =
    with_sessions s (insert_entry nat_cmp s.sessions session ((number, h) ∷ []))
handles_put s session number h (Some handles) =
    with_sessions s (set_value (is_at (nat_cmp session)) s.sessions
    (insert_entry nat_cmp handles number h))

-- with a handle of this session and number
abbrev pub handle_put : StoreState → ℕ → ℕ → OpenHandle → StoreState
handle_put s session number h = handles_put s session number h (handles_of s session)

-- a new handle of an inode, with no name listed yet
abbrev pub new_handle : ℕ → Marks → Node → OpenHandle
new_handle id marks node = record { node = id; label = node.label; marks = marks; listed = None }

abbrev pub after_open_node : StoreState → ℕ → ℕ → OpenHandle → StoreState
after_open_node s session number h = edited (λ it. with_opened (min (it.opens + 1) (2 ^ 64 - 1)) it)
    (handle_put s session number h) h.node

-- a handle opens an inode, if it exists
abbrev pub after_open : StoreState → ℕ → ℕ → ℕ → Marks → StoreState
after_open s session number id marks =
    option_map_or (λ node. after_open_node s session number (new_handle id marks node))
    (node_in s.nodes id) s

-- with the last name that was listed
abbrev pub with_last : Name → OpenHandle → OpenHandle
with_last name h = record h { listed = Some name }

abbrev pub listed_by : ℕ → Name → List (ℕ × OpenHandle) → Option OpenHandle → List (ℕ × OpenHandle)
listed_by number name handles None = handles
listed_by number name handles (Some h) =
    set_value (is_at (nat_cmp number)) handles (with_last name h)

abbrev pub listed_of : ℕ → Name → List (ℕ × OpenHandle) → List (ℕ × OpenHandle)
listed_of number name handles =
    listed_by number name handles (lookup (is_at (nat_cmp number)) handles)

abbrev pub listed_at : StoreState → ℕ → ℕ → Name → Option (List (ℕ × OpenHandle)) → StoreState
listed_at s session number name None = s
listed_at s session number name (Some handles) =
    with_sessions s (set_value (is_at (nat_cmp session)) s.sessions (listed_of number name handles))

abbrev pub handle_listed : StoreState → ℕ → ℕ → Name → StoreState
handle_listed s session number name = listed_at s session number name (handles_of s session)

abbrev pub handle_dropped : StoreState → ℕ → ℕ → Option (List (ℕ × OpenHandle)) → StoreState
handle_dropped s session number None = s
handle_dropped s session number (Some handles) =
    with_sessions s (set_value (is_at (nat_cmp session)) s.sessions
    (remove_entry (is_at (nat_cmp number)) handles))

abbrev pub closed_by : StoreState → Option OpenHandle → StoreState
closed_by s None = s
closed_by s (Some h) = after_close s h.node

-- a handle is closed, and its inode is deleted if it is unused
abbrev pub closed : StoreState → ℕ → ℕ → StoreState
closed s session number =
    closed_by (handle_dropped s session number (handles_of s session))
    (open_handle_at s session number)

-- the inodes of handles lose an open handle each
abbrev pub each_let_go : StoreState → List (ℕ × OpenHandle) → StoreState
each_let_go s handles = fold (λ after e. after_close after e.1.node) s handles

abbrev pub closed_each : StoreState → ℕ → Option (List (ℕ × OpenHandle)) → StoreState
closed_each s session None = s
closed_each s session (Some handles) =
    each_let_go (with_sessions s (remove_entry (is_at (nat_cmp session)) s.sessions)) handles

-- all handles of a session are closed
abbrev pub closed_all : StoreState → ℕ → StoreState
closed_all s session = closed_each s session (handles_of s session)

-- ---- new inodes
-- an entry: the directory's slot, the name, and the slot of its inode
pub record NewEntry : Type 0 where
  pub dir : ℕ
  pub name : Name
  pub id : ℕ

abbrev pub new_entry : ℕ → Name → ℕ → NewEntry
new_entry dir n id = record { dir = dir; name = n; id = id }

-- a new inode with its entry
pub record Inserted (old new : StoreState) (e : NewEntry) (node : Node) : Type 0 where
  pub fresh : node_in old.nodes e.id ≡ None
  pub at : node_in new.nodes e.id ≡ Some node
  pub others : (i : ℕ) → i ≢ e.id
      → node_in new.nodes i ≡ node_in (entry_put old e.dir e.name e.id).nodes i
  pub root : new.root ≡ old.root
  pub sessions : new.sessions ≡ old.sessions
  pub look_ups : new.look_ups ≡ old.look_ups

-- the root alone: inode number 0, permissions 0o755, user 0, group 0, and both times 0
pub record IsFirst (s : StoreState) : Type 0 where
  pub root : node_in s.nodes s.root ≡ Some (record {
    label = 0;
    metadata = made_at 0o755 0;
    content = content.Directory [];
    holder = None;
    names = 1;
    opens = 0;
  })
  pub others : (i : ℕ) → i ≢ s.root → node_in s.nodes i ≡ None
  pub sessions : s.sessions ≡ []
  pub look_ups : s.look_ups ≡ 0
