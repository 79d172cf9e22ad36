-- The kinds of reply to each request.
use Rattle.std.proofs.Common.{option_map, ◌≡◌, ℕ, nat_eq, nat_lt, nat_le, ◌+◌, ◌&&◌, not, Bool, true, false, cond, List, [], ◌∷◌, length, Option, Some, None, refl}
use Rattle.std.specs.Option.{is_some}
use Rattle.sf_path.specs.Names.{Path}
use Rattle.sf_field.specs.declared.attrs.Attrs.{Attrs}
use Rattle.sf_field.specs.declared.open_flags.OpenFlags.{OpenFlags}
use Rattle.sf_reply.specs.declared.reply.Entry.{Entry}
use Rattle.sf_reply.specs.declared.reply.Reply.{Reply}
use Rattle.sf_reply.specs.declared.reply.Reply.TheVariants as reply
use Rattle.sf_call.specs.Histories.{after_reply}
use Rattle.sf_call.specs.declared.limits.TheConstants.{MAX_FILE_SIZE}
use Rattle.sf_call.specs.declared.request.Request.{Request}
use Rattle.sf_field.specs.declared.operation.PathOp.TheVariants as path_op
use Rattle.sf_field.specs.declared.operation.PairOp.TheVariants as pair_op
use Rattle.sf_field.specs.declared.operation.HandleOp.TheVariants as handle_op
use Rattle.sf_call.specs.declared.request.Request.TheVariants.{OnPath, OnPaths, ByHandle, Write}
use Rattle.sf_call.specs.declared.lookup.Lookup.{Lookup}
use Rattle.sf_call.specs.declared.lookup.Lookup.TheVariants.{NoWay, Absent, At}
use Rattle.sf_call.specs.Attributes.{Object}
use Rattle.sf_call.specs.Attributes.Object.{Directory, File}
use Rattle.sf_call.specs.Tree.{Tree, Handle, look_up, found_at, object_of, is_empty, is_nil}
use Rattle.sf_call.specs.Handles.{handle_in, opened}
use Rattle.sf_call.specs.Listings.{path_of, listing_of}
use Rattle.sf_call.specs.Calls.{Outcome, apply, stat, refuses_size, sets, set_stat, make_directory, remove_directory, remove_file, has_all_handles, open_directory, open_present, open_file, close, stat_opened, set_opened, read, start_of, write, lists, read_directory, unless_root}
use Rattle.sf_call.specs.ReplyKinds.{IsStatus, IsStatusOrAttrs, IsStatusOrHandle, IsStatusOrData, IsStatusOrNames, IsWanted, IsReplyTo}
use Rattle.sf_call.specs.Requests.{Wanted, wanted_by}
use Rattle.sf_call.specs.Requests.Wanted.{StatusAlone, Attributes, NewHandle, Bytes, Entries}
use Rattle.sf_call.proofs.RenameCases.{rename_cases, posix_rename_cases, link_cases, link_to_cases}

-- a choice between two replies of a kind is of that kind
choice : (Kind : Reply → Type 0) (b : Bool) (this that : Outcome) → Kind this.reply → Kind that.reply → Kind (cond b this that).reply
choice Kind true this that p q = p
choice Kind false this that p q = q

rooted : (Kind : Reply → Type 0) (path : Path) (answer : Outcome) → Kind (unless_root [] answer).reply → Kind answer.reply → Kind (unless_root path answer).reply
rooted Kind [] answer p q = p
rooted Kind (n ∷ path) answer p q = q

told : (found : Option (ℕ × Object)) → IsStatusOrAttrs (stat found).reply
told None = tt
told (Some (label, Directory m)) = record { size = refl; owner = refl; permissions = refl; times = refl }
told (Some (label, File m contents)) = record { size = refl; owner = refl; permissions = refl; times = refl }

told_opened : (o : Option (Handle × Object)) → IsStatusOrAttrs (stat_opened o).reply
told_opened None = tt
told_opened (Some (h, Directory m)) = record { size = refl; owner = refl; permissions = refl; times = refl }
told_opened (Some (h, File m contents)) = record { size = refl; owner = refl; permissions = refl; times = refl }

parts_set : (moment label : ℕ) (attrs : Attrs) (object : Object) → IsStatus (sets moment label attrs object).reply
parts_set moment label attrs object = choice IsStatus (refuses_size object attrs.size) _ _ tt tt

set_found : (moment : ℕ) (attrs : Attrs) (found : Option (ℕ × Object)) → IsStatus (set_stat moment attrs found).reply
set_found moment attrs None = tt
set_found moment attrs (Some (label, Directory m)) = parts_set moment label attrs (Directory m)
set_found moment attrs (Some (label, File m contents)) = parts_set moment label attrs (File m contents)

set_by_handle : (moment : ℕ) (attrs : Attrs) (o : Option (Handle × Object)) → IsStatus (set_opened moment attrs o).reply
set_by_handle moment attrs None = tt
set_by_handle moment attrs (Some (h, Directory m)) = choice IsStatus (nat_eq h.label 0) _ _ tt (parts_set moment h.label attrs (Directory m))
set_by_handle moment attrs (Some (h, File m contents)) = choice IsStatus (is_some attrs.size && not h.write) _ _ tt (parts_set moment h.label attrs (File m contents))

made : (tree : Tree) (number moment : ℕ) (path : Path) (attrs : Attrs) (place : Lookup) → IsStatus (make_directory tree number moment path attrs place).reply
made tree number moment path attrs NoWay = tt
made tree number moment path attrs (At label) = tt
made tree number moment path attrs Absent = tt

directory_removed : (tree : Tree) (moment : ℕ) (path : Path) (found : Option (ℕ × Object)) → IsStatus (remove_directory tree moment path found).reply
directory_removed tree moment path None = tt
directory_removed tree moment path (Some (label, File m contents)) = tt
directory_removed tree moment path (Some (label, Directory m)) = choice IsStatus (is_empty tree.names path) _ _ tt tt

file_removed : (tree : Tree) (moment : ℕ) (path : Path) (found : Option (ℕ × Object)) → IsStatus (remove_file tree moment path found).reply
file_removed tree moment path None = tt
file_removed tree moment path (Some (label, Directory m)) = tt
file_removed tree moment path (Some (label, File m contents)) = tt

directory_opened : (tree : Tree) (session number : ℕ) (found : Option (ℕ × Object)) → IsStatusOrHandle number (open_directory tree session number found).reply
directory_opened tree session number None = tt
directory_opened tree session number (Some (label, File m contents)) = tt
directory_opened tree session number (Some (label, Directory m)) = choice (IsStatusOrHandle number) (has_all_handles tree session) _ _ tt refl

present_opened : (tree : Tree) (session number moment : ℕ) (flags : OpenFlags) (found : Option (ℕ × Object)) → IsStatusOrHandle number (open_present tree session number moment flags found).reply
present_opened tree session number moment flags None = tt
present_opened tree session number moment flags (Some (label, Directory m)) = tt
present_opened tree session number moment flags (Some (label, File m contents)) =
    choice (IsStatusOrHandle number) (has_all_handles tree session) _ _ tt (choice (IsStatusOrHandle number) (flags.truncate && flags.write) _ _ refl refl)

file_opened : (tree : Tree) (session number moment : ℕ) (path : Path) (flags : OpenFlags) (attrs : Attrs) (place : Lookup) → IsStatusOrHandle number (open_file tree session number moment path flags attrs place).reply
file_opened tree session number moment path flags attrs NoWay = tt
file_opened tree session number moment path flags attrs (At label) =
    choice (IsStatusOrHandle number) (flags.create && flags.exclusive) _ _ tt (present_opened tree session number moment flags (option_map (λ (object : Object). (label, object)) (object_of tree.objects label)))
file_opened tree session number moment path flags attrs Absent =
    choice (IsStatusOrHandle number) (not flags.create) _ _ tt (choice (IsStatusOrHandle number) (has_all_handles tree session) _ _ tt refl)

closed : (number : ℕ) (handle : Option Handle) → IsStatus (close number handle).reply
closed number None = tt
closed number (Some handle) = tt

was_read : (offset len : ℕ) (o : Option (Handle × Object)) → IsStatusOrData (read offset len o).reply
was_read offset len None = tt
was_read offset len (Some (h, Directory m)) = tt
was_read offset len (Some (h, File m contents)) = choice IsStatusOrData (not h.read) _ _ tt (choice IsStatusOrData (nat_le (length contents) offset) _ _ tt tt)

was_written : (moment offset : ℕ) (bytes : List ℕ) (o : Option (Handle × Object)) → IsStatus (write moment offset bytes o).reply
was_written moment offset bytes None = tt
was_written moment offset bytes (Some (h, Directory m)) = tt
was_written moment offset bytes (Some (h, File m contents)) =
    choice IsStatus (not h.write) _ _ tt (choice IsStatus (is_nil bytes) _ _ tt
    (choice IsStatus (nat_lt MAX_FILE_SIZE (start_of h contents offset + length bytes)) _ _ tt tt))

listed : (number : ℕ) (h : Handle) (entries : List Entry) → IsStatusOrNames (lists number h entries).reply
listed number h [] = tt
listed number h (e ∷ es) = tt

directory_read : (tree : Tree) (number : ℕ) (o : Option (Handle × Object)) → IsStatusOrNames (read_directory tree number o).reply
directory_read tree number None = tt
directory_read tree number (Some (h, File m contents)) = tt
directory_read tree number (Some (h, Directory m)) = listed number h (listing_of tree h.listed (path_of tree.names h.label))

pub applied : (tree : Tree) (session number moment : ℕ) (request : Request) → IsReplyTo number request (apply tree session number moment request).reply
applied tree session number moment (OnPath path_op.Stat path) = told (found_at tree path)
applied tree session number moment (OnPath (path_op.SetStat attrs) path) = rooted IsStatus path _ tt (set_found moment attrs (found_at tree path))
applied tree session number moment (OnPath (path_op.Mkdir attrs) path) = rooted IsStatus path _ tt (made tree number moment path attrs (look_up tree path))
applied tree session number moment (OnPath path_op.Rmdir path) = rooted IsStatus path _ tt (directory_removed tree moment path (found_at tree path))
applied tree session number moment (OnPath path_op.Remove path) = rooted IsStatus path _ tt (file_removed tree moment path (found_at tree path))
applied tree session number moment (OnPath path_op.OpenDir path) = directory_opened tree session number (found_at tree path)
applied tree session number moment (OnPath (path_op.Open flags attrs) path) = rooted (IsStatusOrHandle number) path _ tt (file_opened tree session number moment path flags attrs (look_up tree path))
applied tree session number moment (ByHandle handle_op.Close handle) = closed handle (handle_in tree session handle)
applied tree session number moment (ByHandle handle_op.FStat handle) = told_opened (opened tree session handle)
applied tree session number moment (ByHandle (handle_op.FSetStat attrs) handle) = set_by_handle moment attrs (opened tree session handle)
applied tree session number moment (ByHandle (handle_op.Read offset len) handle) = was_read offset len (opened tree session handle)
applied tree session number moment (Write handle offset bytes) = was_written moment offset bytes (opened tree session handle)
applied tree session number moment (ByHandle handle_op.ReadDir handle) = directory_read tree handle (opened tree session handle)
applied tree session number moment (OnPaths pair_op.Rename old new) = rename_cases (λ answer. IsStatus answer.reply) (λ code. tt) tt tree moment old new (λ _ _. tt) session number
applied tree session number moment (OnPaths pair_op.PosixRename old new) = posix_rename_cases (λ answer. IsStatus answer.reply) (λ code. tt) tt tree moment old new (λ _ _. tt) session number
applied tree session number moment (OnPaths pair_op.Link old new) =
    link_cases (λ answer. IsStatus answer.reply) (λ code. tt) tree moment old new
    (λ label _ _ _. link_to_cases (λ answer. IsStatus answer.reply) (λ code. tt) tree moment new label (look_up tree new) refl (λ _ _. tt)) session number

no_memory_wanted : (number : ℕ) (wanted : Wanted) → IsWanted number wanted reply.NoMemory → ⊥
no_memory_wanted number StatusAlone k = k
no_memory_wanted number Attributes k = k
no_memory_wanted number NewHandle k = k
no_memory_wanted number Bytes k = k
no_memory_wanted number Entries k = k

pub never_refused : (number : ℕ) (request : Request) → IsReplyTo number request reply.NoMemory → ⊥
never_refused number request k = no_memory_wanted number (wanted_by request) k

goes_on : (tree next : Tree) (number : ℕ) (request : Request) (given : Reply) → IsReplyTo number request given → after_reply tree next given ≡ next
goes_on tree next number request reply.NoMemory k = absurd (never_refused number request k)
goes_on tree next number request (reply.Status code) k = refl
goes_on tree next number request (reply.Handle handle) k = refl
goes_on tree next number request (reply.Data bytes) k = refl
goes_on tree next number request (reply.Names entries) k = refl
goes_on tree next number request (reply.Attrs attrs) k = refl

-- the specified reply leads to the specified tree
pub after_told : (tree : Tree) (session number moment : ℕ) (request : Request) → after_reply tree (apply tree session number moment request).tree (apply tree session number moment request).reply ≡ (apply tree session number moment request).tree
after_told tree session number moment request = goes_on tree _ number request _ (applied tree session number moment request)
