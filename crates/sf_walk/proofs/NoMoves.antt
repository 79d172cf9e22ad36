-- Requests other than renames move nothing.
use Rattle.std.specs.Prelude.{◌≡◌, ℕ, Bool, true, false, cond, not, nat_eq, nat_lt, nat_le, ◌+◌, ◌&&◌, List, [], ◌∷◌, length, is_some, Option, Some, None, refl}
use Rattle.std.proofs.Common.{option_map, ap, sym}
use Rattle.sf_path.specs.Names.{Path}
use Rattle.sf_path.specs.Order.{parent}
use Rattle.sf_field.specs.declared.attrs.Attrs.{Attrs}
use Rattle.sf_field.specs.declared.open_flags.OpenFlags.{OpenFlags}
use Rattle.sf_reply.specs.declared.reply.Entry.{Entry}
use Rattle.sf_call.specs.declared.limits.TheConstants.{MAX_FILE_SIZE}
use Rattle.sf_call.specs.declared.metadata.Metadata.{Metadata}
use Rattle.sf_call.specs.declared.request.Request.{Request}
use Rattle.sf_field.specs.declared.operation.PathOp.TheVariants as path_op
use Rattle.sf_field.specs.declared.operation.PairOp.TheVariants as pair_op
use Rattle.sf_field.specs.declared.operation.HandleOp.TheVariants as handle_op
use Rattle.sf_call.specs.declared.request.Request.TheVariants as request
use Rattle.sf_call.specs.declared.lookup.Lookup.{Lookup}
use Rattle.sf_call.specs.declared.lookup.Lookup.TheVariants as lookup
use Rattle.sf_call.specs.Attributes.{Object}
use Rattle.sf_call.specs.Attributes.Object.{Directory, File}
use Rattle.sf_call.specs.declared.handle.Handle.{Handle}
use Rattle.sf_call.specs.Tree.{Tree, look_up, found_at, object_of, directory_at, is_empty, is_nil}
use Rattle.sf_call.specs.Handles.{handle_in, opened}
use Rattle.sf_call.specs.Listings.{path_of, listing_of}
use Rattle.sf_call.specs.Changes.{touch, moved_by}
use Rattle.sf_call.specs.Calls.{Outcome, answer_to, stat, set_stat, sets, refuses_size, make_directory, remove_directory, remove_file, open_directory, open_present, open_file, has_all_handles, close, stat_opened, set_opened, read, write, start_of, read_directory, lists, unless_root}
use Rattle.sf_call.proofs.Laws.{link_cases, link_to_cases}
use Rattle.sf_inode.specs.Stores.{StoreState}
use Rattle.sf_walk.specs.declared.renames.Course.{Course}
use Rattle.sf_walk.specs.declared.renames.Course.TheVariants.{Told, Moves}
use Rattle.sf_walk.specs.Renames.{IsCourse, does_move, renaming}

abbrev pub Stays : Outcome → Type 0
Stays answer = moved_by answer.changes ≡ None

either : (b : Bool) (this that : Outcome) → Stays this → Stays that → Stays (cond b this that)
either true this that a b = a
either false this that a b = b

pub rooted : (p : Path) (answer : Outcome) → Stays answer → Stays (unless_root p answer)
rooted [] answer h = refl
rooted (n ∷ p) answer h = h

touches : (moment : ℕ) (o : Option (ℕ × Metadata)) → moved_by (touch moment o) ≡ None
touches moment None = refl
touches moment (Some e) = refl

stat_stays : (found : Option (ℕ × Object)) → Stays (stat found)
stat_stays (Some (label, Directory m)) = refl
stat_stays _ = refl

sets_stays : (moment label : ℕ) (attrs : Attrs) (object : Object) → Stays (sets moment label attrs object)
sets_stays moment label attrs object = either (refuses_size object attrs.size) _ _ refl refl

set_stat_stays : (moment : ℕ) (attrs : Attrs) (found : Option (ℕ × Object)) → Stays (set_stat moment attrs found)
set_stat_stays moment attrs None = refl
set_stat_stays moment attrs (Some (label, Directory m)) = sets_stays moment label attrs (Directory m)
set_stat_stays moment attrs (Some (label, File m contents)) = sets_stays moment label attrs (File m contents)

module _ (t : Tree) (session number moment : ℕ) where
  make_stays : (p : Path) (attrs : Attrs) (at : Lookup) → Stays (make_directory t number moment p attrs at)
  make_stays p attrs lookup.Absent = touches moment (directory_at t (parent p))
  make_stays p attrs _ = refl

  remove_directory_stays : (p : Path) (found : Option (ℕ × Object)) → Stays (remove_directory t moment p found)
  remove_directory_stays p (Some (label, Directory m)) = either (is_empty t.names p) _ _ (touches moment (directory_at t (parent p))) refl
  remove_directory_stays p _ = refl

  remove_stays : (p : Path) (found : Option (ℕ × Object)) → Stays (remove_file t moment p found)
  remove_stays p (Some (label, File m contents)) = touches moment (directory_at t (parent p))
  remove_stays p _ = refl

  open_directory_stays : (found : Option (ℕ × Object)) → Stays (open_directory t session number found)
  open_directory_stays (Some (label, Directory m)) = either (has_all_handles t session) _ _ refl refl
  open_directory_stays _ = refl

  present_stays : (flags : OpenFlags) (found : Option (ℕ × Object)) → Stays (open_present t session number moment flags found)
  present_stays flags (Some (label, File m contents)) = either (has_all_handles t session) _ _ refl (either (flags.truncate && flags.write) _ _ refl refl)
  present_stays flags _ = refl

  open_stays : (p : Path) (flags : OpenFlags) (attrs : Attrs) (at : Lookup) → Stays (open_file t session number moment p flags attrs at)
  open_stays p flags attrs lookup.NoWay = refl
  open_stays p flags attrs (lookup.At label) = either (flags.create && flags.exclusive) _ _ refl (present_stays flags (option_map (λ (object : Object). (label, object)) (object_of t.objects label)))
  open_stays p flags attrs lookup.Absent = either (not flags.create) _ _ refl (either (has_all_handles t session) _ _ refl (touches moment (directory_at t (parent p))))

  close_stays : (o : Option Handle) → Stays (close number o)
  close_stays None = refl
  close_stays (Some handle) = refl

  stat_opened_stays : (o : Option (Handle × Object)) → Stays (stat_opened o)
  stat_opened_stays (Some (handle, Directory m)) = refl
  stat_opened_stays _ = refl

  set_opened_stays : (attrs : Attrs) (o : Option (Handle × Object)) → Stays (set_opened moment attrs o)
  set_opened_stays attrs None = refl
  set_opened_stays attrs (Some (handle, Directory m)) = either (nat_eq handle.label 0) _ _ refl (sets_stays moment handle.label attrs (Directory m))
  set_opened_stays attrs (Some (handle, File m contents)) = either (is_some attrs.size && not handle.write) _ _ refl (sets_stays moment handle.label attrs (File m contents))

  read_stays : (offset len : ℕ) (o : Option (Handle × Object)) → Stays (read offset len o)
  read_stays offset len (Some (handle, File m contents)) = either (not handle.read) _ _ refl (either (nat_le (length contents) offset) _ _ refl refl)
  read_stays offset len _ = refl

  write_stays : (offset : ℕ) (bytes : List ℕ) (o : Option (Handle × Object)) → Stays (write moment offset bytes o)
  write_stays offset bytes (Some (handle, File m contents)) =
      either (not handle.write) _ _ refl (either (is_nil bytes) _ _ refl (either (nat_lt MAX_FILE_SIZE (start_of handle contents offset + length bytes)) _ _ refl refl))
  write_stays offset bytes _ = refl

  lists_stays : (handle : Handle) (es : List Entry) → Stays (lists number handle es)
  lists_stays handle [] = refl
  lists_stays handle (e ∷ es) = refl

  list_stays : (o : Option (Handle × Object)) → Stays (read_directory t number o)
  list_stays (Some (handle, Directory m)) = lists_stays handle (listing_of t handle.listed (path_of t.names handle.label))
  list_stays _ = refl

pub others_stay : (t : Tree) (session number moment : ℕ) (r : Request) → ((old new : Path) → r ≡ request.OnPaths pair_op.Rename old new → ⊥) → ((old new : Path) → r ≡ request.OnPaths pair_op.PosixRename old new → ⊥) → moved_by (answer_to t session number moment r).changes ≡ None
others_stay t session number moment (request.OnPath path_op.Stat p) a b = stat_stays (found_at t p)
others_stay t session number moment (request.OnPath (path_op.SetStat attrs) p) a b = rooted p _ (set_stat_stays moment attrs (found_at t p))
others_stay t session number moment (request.OnPath (path_op.Mkdir attrs) p) a b = rooted p _ (make_stays t session number moment p attrs (look_up t p))
others_stay t session number moment (request.OnPath path_op.Rmdir p) a b = rooted p _ (remove_directory_stays t session number moment p (found_at t p))
others_stay t session number moment (request.OnPath path_op.Remove p) a b = rooted p _ (remove_stays t session number moment p (found_at t p))
others_stay t session number moment (request.OnPath path_op.OpenDir p) a b = open_directory_stays t session number moment (found_at t p)
others_stay t session number moment (request.OnPath (path_op.Open flags attrs) p) a b = rooted p _ (open_stays t session number moment p flags attrs (look_up t p))
others_stay t session number moment (request.ByHandle handle_op.Close handle) a b = close_stays t session handle moment (handle_in t session handle)
others_stay t session number moment (request.ByHandle handle_op.FStat handle) a b = stat_opened_stays t session number moment (opened t session handle)
others_stay t session number moment (request.ByHandle (handle_op.FSetStat attrs) handle) a b = set_opened_stays t session number moment attrs (opened t session handle)
others_stay t session number moment (request.ByHandle (handle_op.Read offset len) handle) a b = read_stays t session number moment offset len (opened t session handle)
others_stay t session number moment (request.Write handle offset bytes) a b = write_stays t session number moment offset bytes (opened t session handle)
others_stay t session number moment (request.ByHandle handle_op.ReadDir handle) a b = list_stays t session handle moment (opened t session handle)
others_stay t session number moment (request.OnPaths pair_op.Rename old new) a b = absurd (a old new refl)
others_stay t session number moment (request.OnPaths pair_op.PosixRename old new) a b = absurd (b old new refl)
others_stay t session number moment (request.OnPaths pair_op.Link old new) a b =
    link_cases Stays (λ code. refl) t moment old new
    (λ label _ _ _. link_to_cases Stays (λ code. refl) t moment new label (look_up t new) refl (λ _ _. touches moment (directory_at t (parent new)))) session number

-- the outcome of a rename says whether it moves an entry
pub course_moves : (s : StoreState) (t : Tree) (moment : ℕ) (old new : Path) (answer : Outcome) (course : Course) → IsCourse s t (renaming old new moment) answer course → does_move course ≡ is_some (moved_by answer.changes)
course_moves s t moment old new answer (Told code) e = sym (ap (λ (a : Outcome). is_some (moved_by a.changes)) e)
course_moves s t moment old new answer (Moves from into) e = sym (ap (λ (a : Outcome). is_some (moved_by a.changes)) e.0)
