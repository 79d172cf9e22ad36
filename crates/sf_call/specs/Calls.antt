-- The sequential specification of each request: its reply, and the changes that it makes. Cases are
-- tried in order; the first that matches applies.
use Rattle.std.specs.Prelude.{ℕ, ◌+◌, not, nat_eq, nat_lt, nat_le, min, Bool, true, false, ◌&&◌, ◌||◌, if◌then◌else◌, List, [], ◌∷◌, ◌++◌, length, take, drop, filter, count_by, Option, Some, None, is_some}
use Rattle.sf_field.specs.declared.attrs.Attrs.{Attrs}
use Rattle.sf_field.specs.declared.open_flags.OpenFlags.{OpenFlags}
use Rattle.sf_reply.specs.declared.reply.Entry.{Entry}
use Rattle.sf_reply.specs.declared.reply.Reply.{Reply}
use Rattle.sf_reply.specs.declared.reply.Reply.TheVariants as reply
use Rattle.sf_reply.specs.declared.reply.StatusCode.{StatusCode}
use Rattle.sf_reply.specs.declared.reply.StatusCode.TheVariants.{Success, EndOfFile, NoSuchFile, PermissionDenied, Failure}
use Rattle.sf_path.specs.Order.{parent, same_path}
use Rattle.sf_path.specs.Names.{Path}
use Rattle.sf_call.specs.declared.limits.TheConstants.{MAX_FILE_SIZE, MAX_READ, MAX_HANDLES, MAX_LINKS}
use Rattle.sf_call.specs.declared.request.Request.{Request}
use Rattle.sf_field.specs.declared.operation.PathOp.TheVariants as path_op
use Rattle.sf_field.specs.declared.operation.PairOp.TheVariants as pair_op
use Rattle.sf_field.specs.declared.operation.HandleOp.TheVariants as handle_op
use Rattle.sf_call.specs.declared.request.Request.TheVariants.{OnPath, OnPaths, ByHandle, Write}
use Rattle.sf_call.specs.declared.lookup.Lookup.TheVariants.{NoWay, Absent, At}
use Rattle.sf_call.specs.Attributes.{Metadata, Object, new_metadata, with_parts, modified_at, attrs_of}
use Rattle.sf_call.specs.Attributes.Object.{Directory, File}
use Rattle.sf_block.specs.Contents.{resized, written}
use Rattle.sf_call.specs.Tree.{Tree, Handle, Lookup, look_up, found_place, found_at, links, is_directory, is_faulty_way, after_front, is_empty, is_nil, kept}
use Rattle.sf_call.specs.Handles.{handle_in, opened}
use Rattle.sf_call.specs.Listings.{path_of, listing_of, last_name}
use Rattle.sf_call.specs.Changes.{Change, done, touched}
use Rattle.sf_call.specs.Changes.Change.{SetObject, NewPath, NewName, GonePath, Move, OpenHandle, SetHandle, CloseHandle}

-- the reply to a request, and the changes that it makes
pub record Outcome : Type 0 where
  pub reply : Reply
  pub changes : List Change

-- a reply without changes
abbrev pub tells : Reply → Outcome
tells r = record { reply = r; changes = [] }

abbrev pub refuses : StatusCode → Outcome
refuses code = tells (reply.Status code)

abbrev pub succeeds : List Change → Outcome
succeeds changes = record { reply = reply.Status Success; changes = changes }

-- ---- calls on paths

-- STAT (draft, section 6.8; POSIX, stat)
abbrev pub stat : Option (ℕ × Object) → Outcome
stat None = refuses NoSuchFile
stat (Some (label, object)) = tells (reply.Attrs (attrs_of object))

-- Setting the size of a directory fails, and so does a size above MAX_FILE_SIZE.
abbrev pub refuses_size : Object → Option ℕ → Bool
refuses_size object None = false
refuses_size (Directory m) (Some size) = true
refuses_size (File m contents) (Some size) = nat_lt MAX_FILE_SIZE size

-- A given size is set first, with the call's timestamp as modification time (POSIX, ftruncate).
-- Then the other attributes are set.
abbrev pub with_size : ℕ → Attrs → Option ℕ → Metadata → List ℕ → Object
with_size moment attrs None m contents = File (with_parts m attrs) contents
with_size moment attrs (Some size) m contents =
    let cut = resized contents size in File (with_parts (modified_at moment m) attrs) cut

abbrev pub with_attrs : ℕ → Attrs → Object → Object
with_attrs moment attrs (Directory m) = Directory (with_parts m attrs)
with_attrs moment attrs (File m contents) = with_size moment attrs attrs.size m contents

abbrev pub sets : ℕ → ℕ → Attrs → Object → Outcome
sets moment label attrs object =
    if refuses_size object attrs.size then refuses Failure
    else succeeds (SetObject label (with_attrs moment attrs object) ∷ [])

-- SETSTAT (draft, section 6.9)
abbrev pub set_stat : ℕ → Attrs → Option (ℕ × Object) → Outcome
set_stat moment attrs None = refuses NoSuchFile
set_stat moment attrs (Some (label, object)) = sets moment label attrs object

-- MKDIR (draft, section 6.6; POSIX, mkdir): creates a directory, whose inode number is the call's
-- number, and sets its parent's modification time
abbrev pub make_directory : Tree → ℕ → ℕ → Path → Attrs → Lookup → Outcome
make_directory tree number moment path attrs NoWay = refuses NoSuchFile
make_directory tree number moment path attrs (At label) = refuses Failure
make_directory tree number moment path attrs Absent =
    succeeds (NewPath path number (Directory (new_metadata 0o755 moment attrs))
    ∷ touched tree moment (parent path))

-- removes a path and sets its parent's modification time
abbrev pub goes : Tree → ℕ → Path → Outcome
goes tree moment path = succeeds (GonePath path ∷ touched tree moment (parent path))

-- RMDIR (draft, section 6.6; POSIX, rmdir)
abbrev pub remove_directory : Tree → ℕ → Path → Option (ℕ × Object) → Outcome
remove_directory tree moment path None = refuses NoSuchFile
remove_directory tree moment path (Some (label, File m contents)) = refuses Failure
remove_directory tree moment path (Some (label, Directory m)) =
    if is_empty tree.names path then goes tree moment path else refuses Failure

-- REMOVE (draft, section 6.5; POSIX, unlink)
abbrev pub remove_file : Tree → ℕ → Path → Option (ℕ × Object) → Outcome
remove_file tree moment path None = refuses NoSuchFile
remove_file tree moment path (Some (label, Directory m)) = refuses Failure
remove_file tree moment path (Some (label, File m contents)) = goes tree moment path

-- whether a session has reached the limit of open handles
abbrev pub has_all_handles : Tree → ℕ → Bool
has_all_handles tree session =
    nat_le MAX_HANDLES (count_by (λ e. nat_eq e.1.session session) tree.handles)

-- opens a handle, whose number is the call's
abbrev pub opens : ℕ → Handle → List Change → Outcome
opens number handle changes =
    record { reply = reply.Handle number; changes = OpenHandle number handle ∷ changes }

-- the handle of a directory has no access mode
abbrev pub directory_handle : ℕ → ℕ → Handle
directory_handle session label = record {
  session = session;
  label = label;
  read = false;
  write = false;
  append = false;
  listed = None;
}

-- a handle opened with neither READ nor WRITE is readable
abbrev pub new_file_handle : ℕ → ℕ → OpenFlags → Handle
new_file_handle session label flags =
    record {
      session = session;
      label = label;
      read = flags.read || not flags.write;
      write = flags.write;
      append = flags.append;
      listed = None;
    }

-- OPENDIR (draft, section 6.7)
abbrev pub open_directory : Tree → ℕ → ℕ → Option (ℕ × Object) → Outcome
open_directory tree session number None = refuses NoSuchFile
open_directory tree session number (Some (label, File m contents)) = refuses Failure
open_directory tree session number (Some (label, Directory m)) =
    if has_all_handles tree session then refuses Failure
    else opens number (directory_handle session label) []

-- OPEN of an existing file: TRUNC with WRITE truncates it
abbrev pub open_present : Tree → ℕ → ℕ → ℕ → OpenFlags → Option (ℕ × Object) → Outcome
open_present tree session number moment flags None = refuses NoSuchFile
open_present tree session number moment flags (Some (label, Directory m)) = refuses Failure
open_present tree session number moment flags (Some (label, File m contents)) =
    if has_all_handles tree session then refuses Failure
    else if flags.truncate && flags.write then
    opens number (new_file_handle session label flags)
    (SetObject label (File (modified_at moment m) []) ∷ [])
    else opens number (new_file_handle session label flags) []

-- OPEN (draft, section 6.3; POSIX, open): a new file is empty, its inode number is the call's
-- number, and its parent's modification time is set
abbrev pub open_file : Tree → ℕ → ℕ → ℕ → Path → OpenFlags → Attrs → Lookup → Outcome
open_file tree session number moment path flags attrs NoWay = refuses NoSuchFile
open_file tree session number moment path flags attrs (At label) =
    if flags.create && flags.exclusive then refuses Failure
    else open_present tree session number moment flags
    (found_place tree.objects (At label))
open_file tree session number moment path flags attrs Absent =
    if not flags.create then refuses NoSuchFile
    else if has_all_handles tree session then refuses Failure
    else opens number (new_file_handle session number flags)
    (NewPath path number (File (new_metadata 0o644 moment attrs) [])
    ∷ touched tree moment (parent path))

-- ---- renames

-- moves `old` and all paths below it to `new`, and sets both parents' modification times
abbrev pub moves : Tree → ℕ → Path → Path → Outcome
moves tree moment old new =
    succeeds (Move old new ∷ (touched tree moment (parent old) ++ touched tree moment (parent new)))

-- fails if one path is a prefix of the other: nothing moves below itself or replaces its ancestor
abbrev pub unless_nested : Path → Path → Outcome → Outcome
unless_nested old new answer =
    if is_some (after_front old new) || is_some (after_front new old) then refuses Failure
    else answer

-- RENAME (draft, section 6.5): fails if the new path exists
abbrev pub rename_to : Tree → ℕ → Path → Path → Lookup → Outcome
rename_to tree moment old new NoWay = refuses NoSuchFile
rename_to tree moment old new (At label) = refuses Failure
rename_to tree moment old new Absent = moves tree moment old new

abbrev pub rename : Tree → ℕ → Path → Path → Lookup → Outcome
rename tree moment old new NoWay = refuses NoSuchFile
rename tree moment old new Absent = refuses NoSuchFile
rename tree moment old new (At label) =
    unless_nested old new (rename_to tree moment old new (look_up tree new))

-- The extension posix-rename (POSIX, rename; OpenSSH's PROTOCOL): a file may replace a file, and a
-- directory an empty directory. If both paths name one file, nothing changes.
abbrev pub replace_by : Tree → ℕ → Path → Path → ℕ → Option (ℕ × Object) → Outcome
replace_by tree moment old new label None =
    if is_faulty_way tree new then refuses NoSuchFile else moves tree moment old new
replace_by tree moment old new label (Some (at, Directory m)) =
    if is_directory tree old && is_empty tree.names new then moves tree moment old new
    else refuses Failure
replace_by tree moment old new label (Some (at, File m contents)) =
    if nat_eq label at then succeeds []
    else if is_directory tree old then refuses Failure else moves tree moment old new

abbrev pub posix_rename : Tree → ℕ → Path → Path → Lookup → Outcome
posix_rename tree moment old new NoWay = refuses NoSuchFile
posix_rename tree moment old new Absent = refuses NoSuchFile
posix_rename tree moment old new (At label) =
    if same_path old new then succeeds []
    else unless_nested old new (replace_by tree moment old new label (found_at tree new))

-- ---- links

-- adds a link at an absent path and sets its parent's modification time; fails if the file has
-- MAX_LINKS links
abbrev pub link_to : Tree → ℕ → Path → ℕ → Lookup → Outcome
link_to tree moment new label NoWay = refuses NoSuchFile
link_to tree moment new label (At other) = refuses Failure
link_to tree moment new label Absent =
    if nat_le MAX_LINKS (links tree.names label) then refuses Failure
    else succeeds (NewName new label ∷ touched tree moment (parent new))

-- the extension hardlink (POSIX, link; OpenSSH's PROTOCOL): the new path names the file that the
-- old one names
abbrev pub link : Tree → ℕ → Path → Option (ℕ × Object) → Outcome
link tree moment new None = refuses NoSuchFile
link tree moment new (Some (label, Directory m)) = refuses Failure
link tree moment new (Some (label, File m contents)) =
    link_to tree moment new label (look_up tree new)

-- ---- calls by handle

-- CLOSE (draft, section 6.3)
abbrev pub close : ℕ → Option Handle → Outcome
close number None = refuses Failure
close number (Some handle) = succeeds (CloseHandle number ∷ [])

-- FSTAT (draft, section 6.8; POSIX, fstat)
abbrev pub stat_opened : Option (Handle × Object) → Outcome
stat_opened None = refuses Failure
stat_opened (Some (handle, object)) = tells (reply.Attrs (attrs_of object))

-- FSETSTAT (draft, section 6.9): fails for the root; setting a size needs a writable handle
abbrev pub set_opened : ℕ → Attrs → Option (Handle × Object) → Outcome
set_opened moment attrs None = refuses Failure
set_opened moment attrs (Some (handle, Directory m)) =
    if nat_eq handle.label 0 then refuses Failure else sets moment handle.label attrs (Directory m)
set_opened moment attrs (Some (handle, File m contents)) =
    if is_some attrs.size && not handle.write then refuses PermissionDenied
    else sets moment handle.label attrs (File m contents)

-- READ (draft, section 6.4; POSIX, pread)
abbrev pub read : ℕ → ℕ → Option (Handle × Object) → Outcome
read offset len None = refuses Failure
read offset len (Some (handle, Directory m)) = refuses Failure
read offset len (Some (handle, File m contents)) =
    if not handle.read then refuses PermissionDenied
    else if nat_le (length contents) offset then refuses EndOfFile
    else tells (reply.Data (take (min len MAX_READ) (drop offset contents)))

-- a handle opened with APPEND writes at the end of the file
abbrev pub start_of : Handle → List ℕ → ℕ → ℕ
start_of handle contents offset = if handle.append then length contents else offset

-- WRITE (draft, section 6.4; POSIX, pwrite and O_APPEND)
abbrev pub write : ℕ → ℕ → List ℕ → Option (Handle × Object) → Outcome
write moment offset bytes None = refuses Failure
write moment offset bytes (Some (handle, Directory m)) = refuses Failure
write moment offset bytes (Some (handle, File m contents)) =
    if not handle.write then refuses PermissionDenied
    else if is_nil bytes then succeeds []
    else if nat_lt MAX_FILE_SIZE (start_of handle contents offset + length bytes)
    then refuses Failure
    else (let after = written contents (start_of handle contents offset) bytes in
    succeeds (SetObject handle.label (File (modified_at moment m) after) ∷ []))

-- READDIR (draft, section 6.7): the next entries; the handle remembers the last name
abbrev pub lists : ℕ → Handle → List Entry → Outcome
lists number handle [] = refuses EndOfFile
lists number handle (e ∷ es) = record {
  reply = reply.Names (e ∷ es);
  changes = SetHandle number (record handle { listed = last_name (e ∷ es) }) ∷ [];
}

abbrev pub read_directory : Tree → ℕ → Option (Handle × Object) → Outcome
read_directory tree number None = refuses Failure
read_directory tree number (Some (handle, File m contents)) = refuses Failure
read_directory tree number (Some (handle, Directory m)) =
    lists number handle (listing_of tree handle.listed (path_of tree.names handle.label))

-- ---- all calls

-- fails if the path is the root: it can't be created, set, opened as a file, removed, moved or
-- linked
abbrev pub unless_root : Path → Outcome → Outcome
unless_root [] answer = refuses Failure
unless_root (name ∷ path) answer = answer

-- the reply to a request of this session, with this call number, at this timestamp, and its changes
abbrev pub answer_to : Tree → ℕ → ℕ → ℕ → Request → Outcome
answer_to tree session number moment (OnPath path_op.Stat path) = stat (found_at tree path)
answer_to tree session number moment (OnPath (path_op.SetStat attrs) path) =
    unless_root path (set_stat moment attrs (found_at tree path))
answer_to tree session number moment (OnPath (path_op.Mkdir attrs) path) =
    unless_root path (make_directory tree number moment path attrs (look_up tree path))
answer_to tree session number moment (OnPath path_op.Rmdir path) =
    unless_root path (remove_directory tree moment path (found_at tree path))
answer_to tree session number moment (OnPath path_op.Remove path) =
    unless_root path (remove_file tree moment path (found_at tree path))
answer_to tree session number moment (OnPath path_op.OpenDir path) =
    open_directory tree session number (found_at tree path)
answer_to tree session number moment (OnPath (path_op.Open flags attrs) path) =
    unless_root path (open_file tree session number moment path flags attrs (look_up tree path))
answer_to tree session number moment (OnPaths pair_op.Rename old new) =
    unless_root old (unless_root new (rename tree moment old new (look_up tree old)))
answer_to tree session number moment (OnPaths pair_op.PosixRename old new) =
    unless_root old (unless_root new (posix_rename tree moment old new (look_up tree old)))
answer_to tree session number moment (OnPaths pair_op.Link old new) =
    unless_root old (unless_root new (link tree moment new (found_at tree old)))
answer_to tree session number moment (ByHandle handle_op.Close handle) =
    close handle (handle_in tree session handle)
answer_to tree session number moment (ByHandle handle_op.FStat handle) =
    stat_opened (opened tree session handle)
answer_to tree session number moment (ByHandle (handle_op.FSetStat attrs) handle) =
    set_opened moment attrs (opened tree session handle)
answer_to tree session number moment (ByHandle (handle_op.Read offset len) handle) =
    read offset len (opened tree session handle)
answer_to tree session number moment (ByHandle handle_op.ReadDir handle) =
    read_directory tree handle (opened tree session handle)
answer_to tree session number moment (Write handle offset bytes) =
    write moment offset bytes (opened tree session handle)

-- the reply to a call, and the tree after it
pub record Applied : Type 0 where
  pub reply : Reply
  pub tree : Tree

abbrev pub apply : Tree → ℕ → ℕ → ℕ → Request → Applied
apply tree session number moment request =
    let answer = answer_to tree session number moment request in
    record { reply = answer.reply; tree = done tree answer.changes }

-- the tree after a session ends: its handles are closed
abbrev pub leave : Tree → ℕ → Tree
leave tree session =
    kept (record tree { handles = filter (λ e. not (nat_eq e.1.session session)) tree.handles })
