-- Inodes (nodes) and their changes.
use Rattle.std.specs.Prelude.{ℕ, ◌+◌, ◌-◌, ◌^◌, min, nat_eq, ◌&&◌, Bool, true, false, filter, List, [], Option, None}
use Rattle.std.specs.Map.{lookup, remove_entry}
use Rattle.std.specs.BTreeMap.{insert_entry}
use Rattle.sf_path.specs.Names.{Name}
use Rattle.sf_path.specs.Order.{same_name, name_cmp}
use Rattle.sf_call.specs.Listings.{is_past}
use Rattle.sf_call.specs.declared.metadata.FileType.{FileType}
use Rattle.sf_call.specs.declared.metadata.FileType.TheVariants as file_type
use Rattle.sf_call.specs.declared.metadata.Metadata.{Metadata}
use Rattle.sf_call.specs.Attributes.{Object}
use Rattle.sf_call.specs.Attributes.Object.{Directory, File}
use Rattle.sf_call.specs.Tree.{is_nil}
use Rattle.sf_block.specs.Contents.{FileBytes, complete}
use Rattle.sf_inode.specs.declared.node.Node.{Node}
use Rattle.sf_inode.specs.declared.node.NewNode.{NewNode}
use Rattle.sf_inode.specs.declared.node.Content.{Content}
use Rattle.sf_inode.specs.declared.node.Content.TheVariants as content

-- ---- the parts of an inode
-- A directory's entries are a list of names with the slots of their inodes, in name order, without
-- duplicates. A file has none.
abbrev pub entries_in : Content → List (Name × ℕ)
entries_in (content.Directory entries) = entries
entries_in (content.File contents) = []

-- the inode of an entry
abbrev pub child_in : Content → Name → Option ℕ
child_in (content.Directory entries) n = lookup (same_name n) entries
child_in (content.File contents) n = None

abbrev pub is_directory_content : Content → Bool
is_directory_content (content.Directory entries) = true
is_directory_content (content.File contents) = false

abbrev pub is_file_content : Content → Bool
is_file_content (content.Directory entries) = false
is_file_content (content.File contents) = true

abbrev pub is_bare_content : Content → Bool
is_bare_content (content.Directory entries) = is_nil entries
is_bare_content (content.File contents) = true

-- the bytes of a file; a directory has none
abbrev pub bytes_in : Content → List ℕ
bytes_in (content.Directory entries) = []
bytes_in (content.File contents) = contents.bytes

-- the number of blocks of a file that are still to be copied
abbrev pub blocks_left_in : Content → ℕ
blocks_left_in (content.Directory entries) = 0
blocks_left_in (content.File contents) = contents.left

-- the object of an inode; bytes still to be copied count as copied
abbrev pub object_in : Metadata → Content → Object
object_in m (content.Directory entries) = Directory m
object_in m (content.File contents) = File m contents.bytes

-- whether an inode has neither link nor open handle
abbrev pub is_unused : Node → Bool
is_unused node = nat_eq node.names 0 && nat_eq node.opens 0

-- the entries after the last one that was listed
abbrev pub entries_past : Option Name → List (Name × ℕ) → List (Name × ℕ)
entries_past last entries = filter (λ e. is_past last e.0) entries

-- ---- new inodes
abbrev pub new_content : FileType → Content
new_content file_type.Directory = content.Directory []
new_content file_type.File = content.File (complete [])

-- an inode with one link, no holder and no open handle
abbrev pub new_node : NewNode → Node
new_node made = record {
  label = made.label;
  metadata = made.metadata;
  content = new_content made.file_type;
  holder = None;
  names = 1;
  opens = 0;
}

-- ---- changes of a directory's entries; a file is unchanged
-- inserts or replaces an entry
abbrev pub more_content : Name → ℕ → Content → Content
more_content n id (content.Directory entries) =
    content.Directory (insert_entry name_cmp entries n id)
more_content n id (content.File contents) = content.File contents

-- removes an entry
abbrev pub less_content : Name → Content → Content
less_content n (content.Directory entries) = content.Directory (remove_entry (same_name n) entries)
less_content n (content.File contents) = content.File contents

-- ---- changes of a file's bytes; a directory is unchanged
abbrev pub with_file : FileBytes → Content → Content
with_file new (content.Directory entries) = content.Directory entries
with_file new (content.File contents) = content.File new

abbrev pub with_bytes : List ℕ → Content → Content
with_bytes new = with_file (complete new)

-- sets the number of blocks still to be copied
abbrev pub with_left : ℕ → Content → Content
with_left left (content.Directory entries) = content.Directory entries
with_left left (content.File contents) =
    content.File (record { bytes = contents.bytes; left = left })

-- ---- changes of an inode
abbrev pub with_content : (Content → Content) → Node → Node
with_content f node = record node { content = f node.content }

abbrev pub with_metadata : (Metadata → Metadata) → Node → Node
with_metadata f node = record node { metadata = f node.metadata }

abbrev pub with_holder : Option ℕ → Node → Node
with_holder holder node = record node { holder = holder }

-- one more link
abbrev pub with_name : Node → Node
with_name node = record node { names = min (node.names + 1) (2 ^ 64 - 1) }

-- one link fewer
abbrev pub without_name : Node → Node
without_name node = record node { names = node.names - 1 }

abbrev pub with_opened : ℕ → Node → Node
with_opened opens node = record node { opens = opens }
