-- The answer to a request is a failure or one of a few shapes, so a law of answers is a table with
-- one row for each.
use Rattle.std.proofs.Common.{option_and_then, option_map, ◌≡◌, ℕ, Bool, true, false, cond, not, nat_eq, nat_lt, nat_le, ◌+◌, ◌&&◌, List, [], ◌∷◌, length, Option, Some, None, refl}
use Rattle.std.specs.Option.{is_some}
use Rattle.sf_path.specs.Names.{Path}
use Rattle.sf_path.specs.Order.{parent}
use Rattle.sf_field.specs.declared.attrs.Attrs.{Attrs}
use Rattle.sf_field.specs.declared.open_flags.OpenFlags.{OpenFlags}
use Rattle.sf_reply.specs.declared.reply.Entry.{Entry}
use Rattle.sf_reply.specs.declared.reply.Reply.TheVariants as reply
use Rattle.sf_reply.specs.declared.reply.StatusCode.{StatusCode}
use Rattle.sf_reply.specs.declared.reply.StatusCode.TheVariants.{EndOfFile, NoSuchFile, PermissionDenied, Failure}
use Rattle.sf_call.specs.declared.limits.TheConstants.{MAX_FILE_SIZE}
use Rattle.sf_call.specs.declared.request.Request.{Request}
use Rattle.sf_field.specs.declared.operation.PathOp.TheVariants as path_op
use Rattle.sf_field.specs.declared.operation.PairOp.TheVariants as pair_op
use Rattle.sf_field.specs.declared.operation.HandleOp.TheVariants as handle_op
use Rattle.sf_call.specs.declared.request.Request.TheVariants.{OnPath, OnPaths, ByHandle, Write}
use Rattle.sf_call.specs.declared.lookup.Lookup.{Lookup}
use Rattle.sf_call.specs.declared.lookup.Lookup.TheVariants.{NoWay, Absent, At}
use Rattle.sf_call.specs.Attributes.{Object}
use Rattle.sf_call.specs.Attributes.Object.{Directory, File}
use Rattle.sf_call.specs.declared.handle.Handle.{Handle}
use Rattle.sf_call.specs.Tree.{Tree, label_at, object_of, look_up, found_place, found_at, is_empty, is_nil}
use Rattle.sf_call.specs.Handles.{handle_in, opened, opened_by}
use Rattle.sf_call.specs.Listings.{path_of, listing_of}
use Rattle.sf_call.specs.Changes.{touched}
use Rattle.sf_call.specs.Changes.Change.{SetObject, NewPath, NewName, CloseHandle}
use Rattle.sf_call.specs.Calls.{Outcome, answer_to, tells, refuses, succeeds, stat, refuses_size, set_stat, make_directory, goes, remove_directory, remove_file, has_all_handles, opens, directory_handle, new_file_handle, open_directory, open_present, open_file, close, stat_opened, set_opened, read, start_of, write, lists, read_directory, unless_root, moves}
use Rattle.sf_call.proofs.Laws.{place_label, rename_cases, posix_rename_cases, link_cases, link_to_cases}

-- the possible answers to a request
pub data Shape (tree : Tree) (session number moment : ℕ) : Request → Outcome → Type 0 where
  Refuses : (r : Request) (code : StatusCode) → Shape tree session number moment r (refuses code)
  DoesNothing : (r : Request) → Shape tree session number moment r (succeeds [])
  TellsAttrs : (r : Request) (attrs : Attrs) → Shape tree session number moment r (tells (reply.Attrs attrs))
  TellsData : (r : Request) (bytes : List ℕ) → Shape tree session number moment r (tells (reply.Data bytes))
  SetsAt : (path : Path) (attrs : Attrs) (label : ℕ) (object : Object) → label_at tree.names path ≡ Some label
      → Shape tree session number moment (OnPath (path_op.SetStat attrs) path) (succeeds (SetObject label object ∷ []))
  SetsOpen : (handle : ℕ) (attrs : Attrs) (h : Handle) (object : Object) → handle_in tree session handle ≡ Some h
      → Shape tree session number moment (ByHandle (handle_op.FSetStat attrs) handle) (succeeds (SetObject h.label object ∷ []))
  Writes : (handle offset : ℕ) (bytes : List ℕ) (h : Handle) (object : Object) → handle_in tree session handle ≡ Some h
      → Shape tree session number moment (Write handle offset bytes) (succeeds (SetObject h.label object ∷ []))
  MakesDirectory : (path : Path) (attrs : Attrs) (object : Object)
      → Shape tree session number moment (OnPath (path_op.Mkdir attrs) path) (succeeds (NewPath path number object ∷ touched tree moment (parent path)))
  RemovesDirectory : (path : Path) → Shape tree session number moment (OnPath path_op.Rmdir path) (goes tree moment path)
  RemovesFile : (path : Path) → Shape tree session number moment (OnPath path_op.Remove path) (goes tree moment path)
  OpensDirectory : (path : Path) (label : ℕ) (object : Object) → label_at tree.names path ≡ Some label → object_of tree.objects label ≡ Some object → has_all_handles tree session ≡ false
      → Shape tree session number moment (OnPath path_op.OpenDir path) (opens number (directory_handle session label) [])
  OpensFile : (path : Path) (flags : OpenFlags) (attrs : Attrs) (label : ℕ) (object : Object) → label_at tree.names path ≡ Some label → object_of tree.objects label ≡ Some object → has_all_handles tree session ≡ false
      → Shape tree session number moment (OnPath (path_op.Open flags attrs) path) (opens number (new_file_handle session label flags) [])
  CutsFile : (path : Path) (flags : OpenFlags) (attrs : Attrs) (label : ℕ) (object cut : Object) → label_at tree.names path ≡ Some label → object_of tree.objects label ≡ Some object → has_all_handles tree session ≡ false
      → Shape tree session number moment (OnPath (path_op.Open flags attrs) path) (opens number (new_file_handle session label flags) (SetObject label cut ∷ []))
  MakesFile : (path : Path) (flags : OpenFlags) (attrs : Attrs) (object : Object) → has_all_handles tree session ≡ false
      → Shape tree session number moment (OnPath (path_op.Open flags attrs) path) (opens number (new_file_handle session number flags) (NewPath path number object ∷ touched tree moment (parent path)))
  Closes : (handle : ℕ) (h : Handle) → handle_in tree session handle ≡ Some h → Shape tree session number moment (ByHandle handle_op.Close handle) (succeeds (CloseHandle handle ∷ []))
  Lists : (handle : ℕ) (h : Handle) (e : Entry) (es : List Entry) → handle_in tree session handle ≡ Some h → Shape tree session number moment (ByHandle handle_op.ReadDir handle) (lists handle h (e ∷ es))
  Renames : (old new : Path) → Shape tree session number moment (OnPaths pair_op.Rename old new) (moves tree moment old new)
  Replaces : (old new : Path) → Shape tree session number moment (OnPaths pair_op.PosixRename old new) (moves tree moment old new)
  Links : (old new : Path) (label : ℕ) → Shape tree session number moment (OnPaths pair_op.Link old new) (succeeds (NewName new label ∷ touched tree moment (parent new)))

module _ (tree : Tree) (session number moment : ℕ) where
  abbrev HasShape : Request → Outcome → Type 0
  HasShape r answer = Shape tree session number moment r answer

  either : (r : Request) (b : Bool) (this that : Outcome) → HasShape r this → HasShape r that → HasShape r (cond b this that)
  either r true this that p q = p
  either r false this that p q = q

  unless : (r : Request) (b : Bool) (this that : Outcome) → HasShape r this → (b ≡ false → HasShape r that) → HasShape r (cond b this that)
  unless r true this that p q = p
  unless r false this that p q = q refl

  rooted : (r : Request) (path : Path) (answer : Outcome) → HasShape r answer → HasShape r (unless_root path answer)
  rooted r [] answer p = Refuses r Failure
  rooted r (n ∷ path) answer p = p

  told : (r : Request) (found : Option (ℕ × Object)) → HasShape r (stat found)
  told r None = Refuses r NoSuchFile
  told r (Some (label, Directory m)) = TellsAttrs r _
  told r (Some (label, File m contents)) = TellsAttrs r _

  told_opened : (r : Request) (o : Option (Handle × Object)) → HasShape r (stat_opened o)
  told_opened r None = Refuses r Failure
  told_opened r (Some (h, Directory m)) = TellsAttrs r _
  told_opened r (Some (h, File m contents)) = TellsAttrs r _

  set_object : (path : Path) (attrs : Attrs) (label : ℕ) (o : Option Object) → label_at tree.names path ≡ Some label → HasShape (OnPath (path_op.SetStat attrs) path) (set_stat moment attrs (option_map (λ (object : Object). (label, object)) o))
  set_object path attrs label None e = Refuses (OnPath (path_op.SetStat attrs) path) NoSuchFile
  set_object path attrs label (Some (Directory m)) e = either (OnPath (path_op.SetStat attrs) path) (refuses_size (Directory m) attrs.size) _ _ (Refuses (OnPath (path_op.SetStat attrs) path) Failure) (SetsAt path attrs label _ e)
  set_object path attrs label (Some (File m contents)) e = either (OnPath (path_op.SetStat attrs) path) (refuses_size (File m contents) attrs.size) _ _ (Refuses (OnPath (path_op.SetStat attrs) path) Failure) (SetsAt path attrs label _ e)

  set_place : (path : Path) (attrs : Attrs) (place : Lookup) → look_up tree path ≡ place → HasShape (OnPath (path_op.SetStat attrs) path) (set_stat moment attrs (found_place tree.objects place))
  set_place path attrs (At label) e = set_object path attrs label (object_of tree.objects label) (place_label tree path label e)
  set_place path attrs _ e = Refuses (OnPath (path_op.SetStat attrs) path) NoSuchFile

  made : (path : Path) (attrs : Attrs) (place : Lookup) → HasShape (OnPath (path_op.Mkdir attrs) path) (make_directory tree number moment path attrs place)
  made path attrs NoWay = Refuses (OnPath (path_op.Mkdir attrs) path) NoSuchFile
  made path attrs (At label) = Refuses (OnPath (path_op.Mkdir attrs) path) Failure
  made path attrs Absent = MakesDirectory path attrs _

  directory_removed : (path : Path) (found : Option (ℕ × Object)) → HasShape (OnPath path_op.Rmdir path) (remove_directory tree moment path found)
  directory_removed path None = Refuses (OnPath path_op.Rmdir path) NoSuchFile
  directory_removed path (Some (label, File m contents)) = Refuses (OnPath path_op.Rmdir path) Failure
  directory_removed path (Some (label, Directory m)) = either (OnPath path_op.Rmdir path) (is_empty tree.names path) _ _ (RemovesDirectory path) (Refuses (OnPath path_op.Rmdir path) Failure)

  file_removed : (path : Path) (found : Option (ℕ × Object)) → HasShape (OnPath path_op.Remove path) (remove_file tree moment path found)
  file_removed path None = Refuses (OnPath path_op.Remove path) NoSuchFile
  file_removed path (Some (label, Directory m)) = Refuses (OnPath path_op.Remove path) Failure
  file_removed path (Some (label, File m contents)) = RemovesFile path

  directory_object : (path : Path) (label : ℕ) (o : Option Object) → label_at tree.names path ≡ Some label → object_of tree.objects label ≡ o → HasShape (OnPath path_op.OpenDir path) (open_directory tree session number (option_map (λ (object : Object). (label, object)) o))
  directory_object path label None e is = Refuses (OnPath path_op.OpenDir path) NoSuchFile
  directory_object path label (Some (File m contents)) e is = Refuses (OnPath path_op.OpenDir path) Failure
  directory_object path label (Some (Directory m)) e is = unless (OnPath path_op.OpenDir path) (has_all_handles tree session) _ _ (Refuses (OnPath path_op.OpenDir path) Failure) (λ free. OpensDirectory path label (Directory m) e is free)

  directory_opened : (path : Path) (place : Lookup) → look_up tree path ≡ place → HasShape (OnPath path_op.OpenDir path) (open_directory tree session number (found_place tree.objects place))
  directory_opened path (At label) e = directory_object path label (object_of tree.objects label) (place_label tree path label e) refl
  directory_opened path _ e = Refuses (OnPath path_op.OpenDir path) NoSuchFile

  file_present : (path : Path) (flags : OpenFlags) (attrs : Attrs) (label : ℕ) (o : Option Object) → label_at tree.names path ≡ Some label → object_of tree.objects label ≡ o
      → HasShape (OnPath (path_op.Open flags attrs) path) (open_present tree session number moment flags (option_map (λ (object : Object). (label, object)) o))
  file_present path flags attrs label None e is = Refuses (OnPath (path_op.Open flags attrs) path) NoSuchFile
  file_present path flags attrs label (Some (Directory m)) e is = Refuses (OnPath (path_op.Open flags attrs) path) Failure
  file_present path flags attrs label (Some (File m contents)) e is =
      let r = OnPath (path_op.Open flags attrs) path in
      unless r (has_all_handles tree session) _ _ (Refuses r Failure) (λ free.
      either r (flags.truncate && flags.write) _ _ (CutsFile path flags attrs label (File m contents) _ e is free) (OpensFile path flags attrs label (File m contents) e is free))

  file_opened : (path : Path) (flags : OpenFlags) (attrs : Attrs) (place : Lookup) → look_up tree path ≡ place → HasShape (OnPath (path_op.Open flags attrs) path) (open_file tree session number moment path flags attrs place)
  file_opened path flags attrs NoWay e = Refuses (OnPath (path_op.Open flags attrs) path) NoSuchFile
  file_opened path flags attrs (At label) e =
      let r = OnPath (path_op.Open flags attrs) path in
      either r (flags.create && flags.exclusive) _ _ (Refuses r Failure) (file_present path flags attrs label (object_of tree.objects label) (place_label tree path label e) refl)
  file_opened path flags attrs Absent e =
      let r = OnPath (path_op.Open flags attrs) path in
      either r (not flags.create) _ _ (Refuses r NoSuchFile) (unless r (has_all_handles tree session) _ _ (Refuses r Failure) (λ free. MakesFile path flags attrs _ free))

  closed : (handle : ℕ) (o : Option Handle) → handle_in tree session handle ≡ o → HasShape (ByHandle handle_op.Close handle) (close handle o)
  closed handle None e = Refuses (ByHandle handle_op.Close handle) Failure
  closed handle (Some h) e = Closes handle h e

  set_by_object : (handle : ℕ) (attrs : Attrs) (h : Handle) (o : Option Object) → handle_in tree session handle ≡ Some h → HasShape (ByHandle (handle_op.FSetStat attrs) handle) (set_opened moment attrs (option_map (λ (object : Object). (h, object)) o))
  set_by_object handle attrs h None e = Refuses (ByHandle (handle_op.FSetStat attrs) handle) Failure
  set_by_object handle attrs h (Some (Directory m)) e =
      let r = ByHandle (handle_op.FSetStat attrs) handle in
      either r (nat_eq h.label 0) _ _ (Refuses r Failure) (either r (refuses_size (Directory m) attrs.size) _ _ (Refuses r Failure) (SetsOpen handle attrs h _ e))
  set_by_object handle attrs h (Some (File m contents)) e =
      let r = ByHandle (handle_op.FSetStat attrs) handle in
      either r (is_some attrs.size && not h.write) _ _ (Refuses r PermissionDenied) (either r (refuses_size (File m contents) attrs.size) _ _ (Refuses r Failure) (SetsOpen handle attrs h _ e))

  set_by_handle : (handle : ℕ) (attrs : Attrs) (o : Option Handle) → handle_in tree session handle ≡ o → HasShape (ByHandle (handle_op.FSetStat attrs) handle) (set_opened moment attrs (option_and_then (opened_by tree) o))
  set_by_handle handle attrs None e = Refuses (ByHandle (handle_op.FSetStat attrs) handle) Failure
  set_by_handle handle attrs (Some h) e = set_by_object handle attrs h (object_of tree.objects h.label) e

  was_read : (r : Request) (offset len : ℕ) (o : Option (Handle × Object)) → HasShape r (read offset len o)
  was_read r offset len (Some (h, File m contents)) = either r (not h.read) _ _ (Refuses r PermissionDenied) (either r (nat_le (length contents) offset) _ _ (Refuses r EndOfFile) (TellsData r _))
  was_read r offset len _ = Refuses r Failure

  written_object : (handle offset : ℕ) (bytes : List ℕ) (h : Handle) (o : Option Object) → handle_in tree session handle ≡ Some h → HasShape (Write handle offset bytes) (write moment offset bytes (option_map (λ (object : Object). (h, object)) o))
  written_object handle offset bytes h (Some (File m contents)) e =
      let r = Write handle offset bytes in
      either r (not h.write) _ _ (Refuses r PermissionDenied) (either r (is_nil bytes) _ _ (DoesNothing r)
      (either r (nat_lt MAX_FILE_SIZE (start_of h contents offset + length bytes)) _ _ (Refuses r Failure) (Writes handle offset bytes h _ e)))
  written_object handle offset bytes h _ e = Refuses (Write handle offset bytes) Failure

  was_written : (handle offset : ℕ) (bytes : List ℕ) (o : Option Handle) → handle_in tree session handle ≡ o → HasShape (Write handle offset bytes) (write moment offset bytes (option_and_then (opened_by tree) o))
  was_written handle offset bytes None e = Refuses (Write handle offset bytes) Failure
  was_written handle offset bytes (Some h) e = written_object handle offset bytes h (object_of tree.objects h.label) e

  listed : (handle : ℕ) (h : Handle) (entries : List Entry) → handle_in tree session handle ≡ Some h → HasShape (ByHandle handle_op.ReadDir handle) (lists handle h entries)
  listed handle h [] e = Refuses (ByHandle handle_op.ReadDir handle) EndOfFile
  listed handle h (x ∷ xs) e = Lists handle h x xs e

  listed_object : (handle : ℕ) (h : Handle) (o : Option Object) → handle_in tree session handle ≡ Some h → HasShape (ByHandle handle_op.ReadDir handle) (read_directory tree handle (option_map (λ (object : Object). (h, object)) o))
  listed_object handle h (Some (Directory m)) e = listed handle h (listing_of tree h.listed (path_of tree.names h.label)) e
  listed_object handle h _ e = Refuses (ByHandle handle_op.ReadDir handle) Failure

  directory_read : (handle : ℕ) (o : Option Handle) → handle_in tree session handle ≡ o → HasShape (ByHandle handle_op.ReadDir handle) (read_directory tree handle (option_and_then (opened_by tree) o))
  directory_read handle None e = Refuses (ByHandle handle_op.ReadDir handle) Failure
  directory_read handle (Some h) e = listed_object handle h (object_of tree.objects h.label) e

  pub shape_of : (r : Request) → HasShape r (answer_to tree session number moment r)
  shape_of (OnPath path_op.Stat path) = told (OnPath path_op.Stat path) (found_at tree path)
  shape_of (OnPath (path_op.SetStat attrs) path) = rooted (OnPath (path_op.SetStat attrs) path) path _ (set_place path attrs (look_up tree path) refl)
  shape_of (OnPath (path_op.Mkdir attrs) path) = rooted (OnPath (path_op.Mkdir attrs) path) path _ (made path attrs (look_up tree path))
  shape_of (OnPath path_op.Rmdir path) = rooted (OnPath path_op.Rmdir path) path _ (directory_removed path (found_at tree path))
  shape_of (OnPath path_op.Remove path) = rooted (OnPath path_op.Remove path) path _ (file_removed path (found_at tree path))
  shape_of (OnPath path_op.OpenDir path) = directory_opened path (look_up tree path) refl
  shape_of (OnPath (path_op.Open flags attrs) path) = rooted (OnPath (path_op.Open flags attrs) path) path _ (file_opened path flags attrs (look_up tree path) refl)
  shape_of (ByHandle handle_op.Close handle) = closed handle (handle_in tree session handle) refl
  shape_of (ByHandle handle_op.FStat handle) = told_opened (ByHandle handle_op.FStat handle) (opened tree session handle)
  shape_of (ByHandle (handle_op.FSetStat attrs) handle) = set_by_handle handle attrs (handle_in tree session handle) refl
  shape_of (ByHandle (handle_op.Read offset len) handle) = was_read (ByHandle (handle_op.Read offset len) handle) offset len (opened tree session handle)
  shape_of (Write handle offset bytes) = was_written handle offset bytes (handle_in tree session handle) refl
  shape_of (ByHandle handle_op.ReadDir handle) = directory_read handle (handle_in tree session handle) refl
  shape_of (OnPaths pair_op.Rename old new) =
      rename_cases (HasShape (OnPaths pair_op.Rename old new)) (Refuses (OnPaths pair_op.Rename old new)) (DoesNothing (OnPaths pair_op.Rename old new)) tree moment old new (λ _ _. Renames old new) session number
  shape_of (OnPaths pair_op.PosixRename old new) =
      posix_rename_cases (HasShape (OnPaths pair_op.PosixRename old new)) (Refuses (OnPaths pair_op.PosixRename old new)) (DoesNothing (OnPaths pair_op.PosixRename old new)) tree moment old new (λ _ _. Replaces old new) session number
  shape_of (OnPaths pair_op.Link old new) =
      link_cases (HasShape (OnPaths pair_op.Link old new)) (Refuses (OnPaths pair_op.Link old new)) tree moment old new
      (λ label _ _ _. link_to_cases (HasShape (OnPaths pair_op.Link old new)) (Refuses (OnPaths pair_op.Link old new)) tree moment new label (look_up tree new) refl (λ _ _. Links old new label)) session number
