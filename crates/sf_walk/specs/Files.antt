-- The files that a call uses, and their blocks left to copy.
use Rattle.std.specs.Prelude.{◌≡◌, ◌≢◌, ◌⊎◌, ◌+◌, ◌<◌, ℕ, Bool, true, false, ◌&&◌, if◌then◌else◌, List, length, is_some, Option, Some, None, option_map}
use Rattle.std.specs.Option.{option_and_then}
use Rattle.sf_block.specs.Contents.{blocks_of}
use Rattle.sf_call.specs.declared.call.Call.{Call}
use Rattle.sf_call.specs.declared.request.Request.{Request}
use Rattle.sf_field.specs.declared.operation.PathOp.TheVariants as path_op
use Rattle.sf_field.specs.declared.operation.HandleOp.TheVariants as handle_op
use Rattle.sf_call.specs.declared.request.Request.TheVariants as request
use Rattle.sf_inode.specs.declared.handle.OpenHandle.{OpenHandle}
use Rattle.sf_inode.specs.declared.node.Node.{Node}
use Rattle.sf_inode.specs.Stores.{StoreState, node_in, open_handle_at, holder_of, bytes_of, blocks_left_at, is_file_at}
use Rattle.sf_coupling.specs.Walks.{IsFree}
use Rattle.sf_walk.specs.declared.finding.Located.{Located}
use Rattle.sf_walk.specs.declared.finding.Located.TheVariants as located
use Rattle.sf_walk.specs.declared.files.Copying.{Copying}
use Rattle.sf_walk.specs.declared.files.Writer.{Writer}

-- the handle by which a call reads, writes or sets its file
abbrev pub file_handle : Request → Option ℕ
file_handle (request.ByHandle (handle_op.FSetStat attrs) handle) = Some handle
file_handle (request.ByHandle (handle_op.Read offset len) handle) = Some handle
file_handle (request.Write handle offset bytes) = Some handle
file_handle other = None

-- a WRITE
abbrev pub IsWriteRequest : Request → Type 0
IsWriteRequest (request.OnPath op path) = ⊥
IsWriteRequest (request.OnPaths op old new) = ⊥
IsWriteRequest (request.ByHandle op handle) = ⊥
IsWriteRequest (request.Write handle offset bytes) = Unit {0}

-- whether a call truncates or extends the file of its path
abbrev pub cuts_file : Request → Bool
cuts_file (request.OnPath (path_op.SetStat attrs) path) = is_some attrs.size
cuts_file (request.OnPath (path_op.Open flags attrs) path) = flags.truncate && flags.write
cuts_file other = false

-- A file that the call reads, writes, truncates or extends has no blocks left to copy. This holds
-- if no other call holds that file.
pub record IsSettled (s : StoreState) (session : ℕ) (request : Request)
    (found : Located) : Type 0 where
  pub by_handle : (number : ℕ) (h : OpenHandle) → file_handle request ≡ Some number
      → open_handle_at s session number ≡ Some h → blocks_left_at s.nodes h.node ≡ 0
  pub on_path : (parent node : ℕ) → cuts_file request ≡ true → found ≡ located.At parent node
      → blocks_left_at s.nodes node ≡ 0

-- the call that holds an inode, if it is a file
abbrev pub file_holder_of : List (Option Node) → Option OpenHandle → Option ℕ
file_holder_of nodes None = None
file_holder_of nodes (Some h) =
    if is_file_at nodes h.node then holder_of nodes h.node else None

-- the call that holds the file of a session's handle, if the request reads, writes or sets that
-- file
abbrev pub holder_by : StoreState → ℕ → Request → Option ℕ
holder_by s session request = option_and_then (λ number. file_holder_of s.nodes
    (open_handle_at s session number)) (file_handle request)

-- another call holds the file that the call's handle opens
pub record WaitsForFile (s : StoreState) (call : Call) (holder : ℕ) : Type 0 where
  pub number : ℕ
  pub handle : OpenHandle
  pub by_handle : file_handle call.request ≡ Some number
  pub opens : open_handle_at s call.session number ≡ Some handle
  pub file : is_file_at s.nodes handle.node ≡ true
  pub held : holder_of s.nodes handle.node ≡ Some holder
  pub other : call.number ≢ holder

-- no other call holds the file that the call's handle opens
pub record IsFileFree (s : StoreState) (call : Call) : Type 0 where
  pub free : (number : ℕ) (h : OpenHandle) → file_handle call.request ≡ Some number
      → open_handle_at s call.session number ≡ Some h → is_file_at s.nodes h.node ≡ true
      → IsFree (holder_of s.nodes) call.number h.node

-- the offset at which a write by this handle starts
abbrev pub start_by : StoreState → OpenHandle → ℕ → ℕ
start_by s h offset = if h.marks.append then length (bytes_of s.nodes h.node) else offset

-- all blocks that a write by this handle writes, except one, are left to copy into its file
abbrev pub HasAllButOne : StoreState → StoreState → OpenHandle → ℕ → List ℕ → Type 0
HasAllButOne old new h offset bytes =
    blocks_left_at new.nodes h.node + 1 ≡ blocks_of (start_by old h offset) bytes

-- After the first step of a WRITE no block is left to copy into its file, or all that it writes
-- except one.
abbrev pub HasBlocksLeft : StoreState → StoreState → OpenHandle → ℕ → List ℕ → Type 0
HasBlocksLeft old new h offset bytes = (blocks_left_at new.nodes h.node ≡ 0)
    ⊎ HasAllButOne old new h offset bytes

-- the label of an inode, if it exists
abbrev pub node_label : List (Option Node) → ℕ → Option ℕ
node_label nodes id = option_map (λ (node : Node). node.label) (node_in nodes id)

-- The first step of a WRITE by this handle. No other inode changes, and its file keeps its holder
-- and its label. The number of blocks left is as above.
pub record StartsWriting (old new : StoreState) (h : OpenHandle) (offset : ℕ)
    (bytes : List ℕ) : Type 0 where
  pub others : (i : ℕ) → i ≢ h.node → node_in new.nodes i ≡ node_in old.nodes i
  pub holder : holder_of new.nodes h.node ≡ holder_of old.nodes h.node
  pub label : node_label new.nodes h.node ≡ node_label old.nodes h.node
  pub left : HasBlocksLeft old new h offset bytes

-- the file that a call by handle copies into, if blocks are left
pub record CopiesIntoFile (s : StoreState) (call : Call) (c : Copying) : Type 0 where
  pub number : ℕ
  pub handle : OpenHandle
  pub by_handle : file_handle call.request ≡ Some number
  pub opens : open_handle_at s call.session number ≡ Some handle
  pub node : c.node ≡ handle.node
  pub left : blocks_left_at s.nodes handle.node ≡ c.left
  pub some : 0 < c.left

-- a call holds the file that another call truncates or extends by its path
pub record IsWriter (s : StoreState) (request : Request) (found : Located)
    (w : Writer) : Type 0 where
  pub cuts : cuts_file request ≡ true
  pub parent : ℕ
  pub there : found ≡ located.At parent w.node
  pub file : is_file_at s.nodes w.node ≡ true
  pub held : holder_of s.nodes w.node ≡ Some w.number

-- no call holds such a file
abbrev pub HasNoWriter : StoreState → Request → Located → Type 0
HasNoWriter s request found = (parent node : ℕ) → cuts_file request ≡ true
    → found ≡ located.At parent node → is_file_at s.nodes node ≡ true
    → holder_of s.nodes node ≡ None
