-- The answers to requests with values in range: short replies, and trees with values in range.
use Rattle.std.proofs.Common.{◌≡◌, ℕ, zero, suc, refl, ◌+◌, ◌<◌, ◌≤◌, ◌^◌, Bool, true, false, cond, eqb, not, nat_eq, nat_lt, nat_le, ◌&&◌, List, [], ◌∷◌, ◌++◌, length, take, filter_map, Option, Some, None, option_map, option_and_then, unwrap_or, IfSome, arith}
use Rattle.std.specs.List.{AllByRecursion}
use Rattle.std.specs.Option.{is_some, option_map_or}
use Rattle.std.specs.Ordering.{nat_cmp}
use Rattle.std.specs.BTreeMap.{is_at}
use Rattle.std.proofs.lemmas.Bool.{ltb-false}
use Rattle.std.proofs.lemmas.List.{length-append, length-replicate, length-take, length-drop}
use Rattle.std.proofs.lemmas.List.Elements.{All-head}
use Rattle.sf_path.specs.Names.{Name, Path, IsName, IsPath}
use Rattle.sf_path.specs.Order.{parent}
use Rattle.sf_field.specs.declared.attrs.Attrs.{Attrs}
use Rattle.sf_field.specs.declared.attrs.Owner.{Owner}
use Rattle.sf_field.specs.declared.open_flags.OpenFlags.{OpenFlags}
use Rattle.sf_reply.specs.declared.reply.Entry.{Entry}
use Rattle.sf_reply.specs.declared.reply.Reply.{Reply}
use Rattle.sf_reply.specs.declared.reply.Reply.TheVariants as reply
use Rattle.sf_field.specs.Attributes.{AttrsFit, OwnerFits, TimesFit}
use Rattle.sf_reply.specs.Longname.{longname_text}
use Rattle.sf_reply.proofs.Laws.{longname_short}
use Rattle.sf_call.specs.declared.limits.TheConstants.{MAX_FILE_SIZE, MAX_READ, MAX_ENTRIES, MAX_LINKS}
use Rattle.sf_call.specs.declared.metadata.Metadata.{Metadata}
use Rattle.sf_call.specs.declared.lookup.Lookup.{Lookup}
use Rattle.sf_call.specs.declared.lookup.Lookup.TheVariants.{NoWay, Absent, At}
use Rattle.sf_call.specs.declared.request.Request.{Request}
use Rattle.sf_field.specs.declared.operation.PathOp.TheVariants as path_op
use Rattle.sf_field.specs.declared.operation.PairOp.TheVariants as pair_op
use Rattle.sf_field.specs.declared.operation.HandleOp.TheVariants as handle_op
use Rattle.sf_call.specs.declared.request.Request.TheVariants.{OnPath, OnPaths, ByHandle, Write}
use Rattle.sf_call.specs.Attributes.{Object, made_at, modified_at, new_id, new_owner, with_parts, attrs_of}
use Rattle.sf_call.specs.Attributes.Object.{Directory, File}
use Rattle.sf_block.specs.Contents.{resized, written}
use Rattle.sf_call.specs.Tree.{Tree, Handle, label_at, object_of, links, directory_metadata, directory_at, look_up, found_place, found_at, after_front, only_name, is_nil, is_empty}
use Rattle.sf_call.specs.Handles.{handle_in, opened_by, opened}
use Rattle.sf_call.specs.Listings.{path_of, is_past, name_past, entry_of, listed_entry, listing_of}
use Rattle.sf_call.specs.Changes.{touch, touched}
use Rattle.sf_call.specs.Values.{IsRequest, IsCall}
use Rattle.sf_call.specs.Calls.{Outcome, answer_to, stat, refuses_size, with_size, sets, set_stat, make_directory, remove_directory, remove_file, has_all_handles, open_directory, open_present, open_file, close, stat_opened, set_opened, read, start_of, write, lists, read_directory, unless_root, moves}
use Rattle.sf_call.proofs.RenameCases.{rename_cases, posix_rename_cases, link_cases, link_to_cases}
use Rattle.sf_call.proofs.FittingTrees.{MetadataFits, ObjectFits, TreeFits, ChangeFits, all_made, found_value, rest_names}

-- a property of the elements of two lists holds for both lists together
all_both : {A : Type 0} (P : A → Type 0) (xs ys : List A) → AllByRecursion P xs → AllByRecursion P ys → AllByRecursion P (xs ++ ys)
all_both P [] ys p q = q
all_both P (x ∷ xs) ys p q = (p.0, all_both P xs ys p.1 q)

pub record EntryIsShort (e : Entry) : Type 0 where
  pub filename : length e.filename ≤ 255
  pub longname : length e.longname ≤ 343
  pub attrs : AttrsFit e.attrs

abbrev pub IsShort : Reply → Type 0
IsShort (reply.Status code) = Unit {0}
IsShort reply.NoMemory = Unit {0}
IsShort (reply.Handle number) = number < 2 ^ 64
IsShort (reply.Data bytes) = length bytes ≤ MAX_READ
IsShort (reply.Names entries) = (length entries ≤ MAX_ENTRIES) × AllByRecursion EntryIsShort entries
IsShort (reply.Attrs attrs) = AttrsFit attrs

abbrev pub AnswerFits : Outcome → Type 0
AnswerFits answer = IsShort answer.reply × AllByRecursion ChangeFits answer.changes

abbrev FoundFits : Option (ℕ × Object) → Type 0
FoundFits None = Unit {0}
FoundFits (Some (label, Directory m)) = ObjectFits (Directory m)
FoundFits (Some (label, File m contents)) = ObjectFits (File m contents)

abbrev OpenedFits : Option (Handle × Object) → Type 0
OpenedFits None = Unit {0}
OpenedFits (Some (h, Directory m)) = ObjectFits (Directory m)
OpenedFits (Some (h, File m contents)) = ObjectFits (File m contents)

-- ---- values

given_or : {A : Type 0} (P : A → Type 0) (o : Option A) (d : A) → IfSome o P → P d → P (unwrap_or o d)
given_or P None d p q = q
given_or P (Some x) d p q = p

id_fits : (given stored : ℕ) → given < 2 ^ 32 → stored < 2 ^ 32 → new_id given stored < 2 ^ 32
id_fits given stored p q = elim (eqb given 4294967295) as (λ b. cond b stored given < 2 ^ 32) [ true ↦ q | false ↦ p ]

owner_fits : (o : Option Owner) (stored : Owner) → IfSome o OwnerFits → OwnerFits stored → OwnerFits (option_map_or (λ given. new_owner given stored) o stored)
owner_fits None stored p q = q
owner_fits (Some given) stored p q =
    record { uid = id_fits given.uid stored.uid p.uid q.uid; gid = id_fits given.gid stored.gid p.gid q.gid }

parts_fit : (m : Metadata) (attrs : Attrs) → MetadataFits m → AttrsFit attrs → MetadataFits (with_parts m attrs)
parts_fit m attrs fits a = record {
  owner = owner_fits attrs.owner m.owner a.owner fits.owner;
  times = given_or TimesFit attrs.times m.times a.times fits.times;
}

attrs_fit : (object : Object) → ObjectFits object → AttrsFit (attrs_of object)
attrs_fit (Directory m) fits = record { size = omega arith; owner = fits.owner; permissions = omega arith; times = fits.times }
attrs_fit (File m contents) fits = record { size = omega (arith, fits.1); owner = fits.0.owner; permissions = omega arith; times = fits.0.times }

length-resized : (contents : List ℕ) (size : ℕ) → length (resized contents size) ≡ size
length-resized contents size = simp (length-append, length-take, length-replicate) (omega arith)

length-written : (contents : List ℕ) (start : ℕ) (bytes : List ℕ) → length contents ≤ MAX_FILE_SIZE → start + length bytes ≤ MAX_FILE_SIZE → length (written contents start bytes) ≤ MAX_FILE_SIZE
length-written contents start bytes small end = simp (length-append, length-take, length-replicate, length-drop) (omega arith)

-- ---- listings

name_short : (path : Option Path) → IfSome path IsPath → IfSome (only_name path) IsName
name_short None names = tt
name_short (Some []) names = tt
name_short (Some (n ∷ [])) names = All-head IsName n [] names
name_short (Some (n ∷ m ∷ path)) names = tt

past_name : (directory : Path) (last : Option Name) (path : Path) → IsPath path → IfSome (name_past directory last path) IsName
past_name directory last path names =
    elim (only_name (after_front directory path)) as (λ o. IfSome o IsName → IfSome (option_and_then (λ name. cond (is_past last name) (Some name) None) o) IsName) [
      | None ↦ λ _. tt
      | Some name ↦ λ is_name. elim (is_past last name) as (λ b. IfSome (cond b (Some name) None) IsName) [ true ↦ is_name | false ↦ tt ]
    ] (name_short (after_front directory path) (rest_names directory path names))

pub taken_short : {A : Type 0} (P : A → Type 0) (n : ℕ) (xs : List A) → AllByRecursion P xs → AllByRecursion P (take n xs)
taken_short P zero xs all = tt
taken_short P (suc n) [] all = tt
taken_short P (suc n) (x ∷ xs) all = (all.0, taken_short P n xs all.1)

shown_short : (attrs : Attrs) (count : ℕ) (name : Name) → AttrsFit attrs → count ≤ MAX_LINKS → length name ≤ 255 → (line : Option (List ℕ)) → longname_text attrs count name ≡ line → length (unwrap_or line []) ≤ 343
shown_short attrs count name fits few short None e = omega arith
shown_short attrs count name fits few short (Some line) e = omega (arith, longname_short attrs count name line fits (omega (arith, few)) e)

entry_short : (name : Name) (count : ℕ) (object : Object) → IsName name → count ≤ MAX_LINKS → ObjectFits object → EntryIsShort (entry_of name count object)
entry_short name count object is_name few fits = record {
  filename = is_name.part.short;
  longname = shown_short (attrs_of object) count name (attrs_fit object fits) few is_name.part.short (longname_text (attrs_of object) count name) refl;
  attrs = attrs_fit object fits;
}

module _ (tree : Tree) (fits : TreeFits tree) (few : (label : ℕ) → links tree.names label ≤ MAX_LINKS) where
  there : (label : ℕ) → IfSome (object_of tree.objects label) ObjectFits
  there label = found_value ObjectFits (is_at (nat_cmp label)) tree.objects fits.objects

  listed_short : (directory : Path) (last : Option Name) (e : Path × ℕ) → IsPath e.0 → IfSome (listed_entry tree directory last e) EntryIsShort
  listed_short directory last e names =
      elim (name_past directory last e.0) as (λ o. IfSome o IsName → IfSome (option_and_then (λ name. option_map (entry_of name (links tree.names e.1)) (object_of tree.objects e.1)) o) EntryIsShort) [
        | None ↦ λ _. tt
        | Some name ↦ λ is_name.
            elim (object_of tree.objects e.1) as (λ o. IfSome o ObjectFits → IfSome (option_map (entry_of name (links tree.names e.1)) o) EntryIsShort) [
              | None ↦ λ _. tt
              | Some object ↦ λ object_fits. entry_short name (links tree.names e.1) object is_name (few e.1) object_fits
            ] (there e.1)
      ] (past_name directory last e.0 names)

  listing_short : (last : Option Name) (directory : Option Path) → IsShort (reply.Names (listing_of tree last directory))
  listing_short last None = (omega arith, tt)
  listing_short last (Some directory) =
      let entries = filter_map (listed_entry tree directory last) tree.names in (
        simp length-take (omega arith),
        taken_short EntryIsShort MAX_ENTRIES entries (all_made (λ e. IsPath e.0) EntryIsShort (listed_entry tree directory last) (listed_short directory last) tree.names fits.names),
      )

  -- ---- the objects of paths and handles

  object_found : (label : ℕ) (o : Option Object) → IfSome o ObjectFits → FoundFits (option_map (λ (object : Object). (label, object)) o)
  object_found label None f = tt
  object_found label (Some (Directory m)) f = f
  object_found label (Some (File m contents)) f = f

  place_found : (place : Lookup) → FoundFits (found_place tree.objects place)
  place_found NoWay = tt
  place_found Absent = tt
  place_found (At label) = object_found label (object_of tree.objects label) (there label)

  path_found : (path : Path) → FoundFits (found_at tree path)
  path_found path = place_found (look_up tree path)

  object_opened : (h : Handle) (o : Option Object) → IfSome o ObjectFits → OpenedFits (option_map (λ (object : Object). (h, object)) o)
  object_opened h None f = tt
  object_opened h (Some (Directory m)) f = f
  object_opened h (Some (File m contents)) f = f

  handle_opened : (o : Option Handle) → OpenedFits (option_and_then (opened_by tree) o)
  handle_opened None = tt
  handle_opened (Some h) = object_opened h (object_of tree.objects h.label) (there h.label)

  directory_there : (o : Option Object) → IfSome o ObjectFits → IfSome (option_and_then directory_metadata o) MetadataFits
  directory_there None f = tt
  directory_there (Some (Directory m)) f = f
  directory_there (Some (File m contents)) f = tt

  directory_fits : (path : Path) → IfSome (directory_at tree path) (λ e. MetadataFits e.1)
  directory_fits path =
      elim (label_at tree.names path) as (λ o. IfSome {T = ℕ × Metadata} (option_and_then (λ label. option_map (λ m. (label, m)) (option_and_then directory_metadata (object_of tree.objects label))) o) (λ e. MetadataFits e.1)) [
        | None ↦ tt
        | Some label ↦
            elim (option_and_then directory_metadata (object_of tree.objects label)) as (λ o. IfSome o MetadataFits → IfSome {T = ℕ × Metadata} (option_map (λ m. (label, m)) o) (λ e. MetadataFits e.1)) [
              | None ↦ λ _. tt
              | Some m ↦ λ f. f
            ] (directory_there (object_of tree.objects label) (there label))
      ]

  -- ---- answers

  module _ (session number moment : ℕ) (number_fits : number < 2 ^ 64) (moment_fits : moment < 2 ^ 32) where
    either : (b : Bool) (this that : Outcome) → AnswerFits this → AnswerFits that → AnswerFits (cond b this that)
    either true this that p q = p
    either false this that p q = q

    if_not : (b : Bool) (this that : Outcome) → AnswerFits this → (b ≡ false → AnswerFits that) → AnswerFits (cond b this that)
    if_not true this that p q = p
    if_not false this that p q = q refl

    modified_fits : (m : Metadata) → MetadataFits m → MetadataFits (modified_at moment m)
    modified_fits m f = record { owner = f.owner; times = record { atime = f.times.atime; mtime = moment_fits } }

    made_fits : (permissions : ℕ) (attrs : Attrs) → AttrsFit attrs → MetadataFits (with_parts (made_at permissions moment) attrs)
    made_fits permissions attrs a = parts_fit (made_at permissions moment) attrs (record {
      owner = record { uid = omega arith; gid = omega arith };
      times = record { atime = moment_fits; mtime = moment_fits };
    }) a

    touch_fits : (o : Option (ℕ × Metadata)) → IfSome o (λ e. MetadataFits e.1) → AllByRecursion ChangeFits (touch moment o)
    touch_fits None f = tt
    touch_fits (Some e) f = (modified_fits e.1 f, tt)

    touched_fits : (path : Path) → AllByRecursion ChangeFits (touched tree moment path)
    touched_fits path = touch_fits (directory_at tree path) (directory_fits path)

    told : (found : Option (ℕ × Object)) → FoundFits found → AnswerFits (stat found)
    told None f = (tt, tt)
    told (Some (label, Directory m)) f = (attrs_fit (Directory m) f, tt)
    told (Some (label, File m contents)) f = (attrs_fit (File m contents) f, tt)

    size_set : (attrs : Attrs) (size : Option ℕ) (m : Metadata) (contents : List ℕ) → AttrsFit attrs → ObjectFits (File m contents) → refuses_size (File m contents) size ≡ false
        → ObjectFits (with_size moment attrs size m contents)
    size_set attrs None m contents a f small = (parts_fit m attrs f.0 a, f.1)
    size_set attrs (Some size) m contents a f small =
        (parts_fit (modified_at moment m) attrs (modified_fits m f.0) a, omega (arith, length-resized contents size, ltb-false MAX_FILE_SIZE size small))

    parts_set : (label : ℕ) (attrs : Attrs) (object : Object) → AttrsFit attrs → ObjectFits object → AnswerFits (sets moment label attrs object)
    parts_set label attrs (Directory m) a f = either (refuses_size (Directory m) attrs.size) _ _ (tt, tt) (tt, (parts_fit m attrs f a, tt))
    parts_set label attrs (File m contents) a f =
        if_not (refuses_size (File m contents) attrs.size) _ _ (tt, tt) (λ small. (tt, (size_set attrs attrs.size m contents a f small, tt)))

    set_found : (attrs : Attrs) (found : Option (ℕ × Object)) → AttrsFit attrs → FoundFits found → AnswerFits (set_stat moment attrs found)
    set_found attrs None a f = (tt, tt)
    set_found attrs (Some (label, Directory m)) a f = parts_set label attrs (Directory m) a f
    set_found attrs (Some (label, File m contents)) a f = parts_set label attrs (File m contents) a f

    made : (path : Path) (attrs : Attrs) (place : Lookup) → IsPath path → AttrsFit attrs → AnswerFits (make_directory tree number moment path attrs place)
    made path attrs NoWay p a = (tt, tt)
    made path attrs (At label) p a = (tt, tt)
    made path attrs Absent p a = (tt, ((p, made_fits 0o755 attrs a), touched_fits (parent path)))

    directory_removed : (path : Path) (found : Option (ℕ × Object)) → AnswerFits (remove_directory tree moment path found)
    directory_removed path None = (tt, tt)
    directory_removed path (Some (label, File m contents)) = (tt, tt)
    directory_removed path (Some (label, Directory m)) = either (is_empty tree.names path) _ _ (tt, (tt, touched_fits (parent path))) (tt, tt)

    file_removed : (path : Path) (found : Option (ℕ × Object)) → AnswerFits (remove_file tree moment path found)
    file_removed path None = (tt, tt)
    file_removed path (Some (label, Directory m)) = (tt, tt)
    file_removed path (Some (label, File m contents)) = (tt, (tt, touched_fits (parent path)))

    directory_opened : (found : Option (ℕ × Object)) → AnswerFits (open_directory tree session number found)
    directory_opened None = (tt, tt)
    directory_opened (Some (label, File m contents)) = (tt, tt)
    directory_opened (Some (label, Directory m)) = either (has_all_handles tree session) _ _ (tt, tt) (number_fits, (tt, tt))

    present_opened : (flags : OpenFlags) (found : Option (ℕ × Object)) → FoundFits found → AnswerFits (open_present tree session number moment flags found)
    present_opened flags None f = (tt, tt)
    present_opened flags (Some (label, Directory m)) f = (tt, tt)
    present_opened flags (Some (label, File m contents)) f =
        either (has_all_handles tree session) _ _ (tt, tt)
        (either (flags.truncate && flags.write) _ _ (number_fits, (tt, ((modified_fits m f.0, omega arith), tt))) (number_fits, (tt, tt)))

    file_opened : (path : Path) (flags : OpenFlags) (attrs : Attrs) (place : Lookup) → IsPath path → AttrsFit attrs → AnswerFits (open_file tree session number moment path flags attrs place)
    file_opened path flags attrs NoWay p a = (tt, tt)
    file_opened path flags attrs (At label) p a =
        either (flags.create && flags.exclusive) _ _ (tt, tt)
        (present_opened flags (option_map (λ (object : Object). (label, object)) (object_of tree.objects label)) (object_found label (object_of tree.objects label) (there label)))
    file_opened path flags attrs Absent p a =
        either (not flags.create) _ _ (tt, tt) (either (has_all_handles tree session) _ _ (tt, tt)
        (number_fits, (tt, ((p, (made_fits 0o644 attrs a, omega arith)), touched_fits (parent path)))))

    closed : (handle : ℕ) (o : Option Handle) → AnswerFits (close handle o)
    closed handle None = (tt, tt)
    closed handle (Some h) = (tt, (tt, tt))

    told_opened : (o : Option (Handle × Object)) → OpenedFits o → AnswerFits (stat_opened o)
    told_opened None f = (tt, tt)
    told_opened (Some (h, Directory m)) f = (attrs_fit (Directory m) f, tt)
    told_opened (Some (h, File m contents)) f = (attrs_fit (File m contents) f, tt)

    set_by_handle : (attrs : Attrs) (o : Option (Handle × Object)) → AttrsFit attrs → OpenedFits o → AnswerFits (set_opened moment attrs o)
    set_by_handle attrs None a f = (tt, tt)
    set_by_handle attrs (Some (h, Directory m)) a f = either (nat_eq h.label 0) _ _ (tt, tt) (parts_set h.label attrs (Directory m) a f)
    set_by_handle attrs (Some (h, File m contents)) a f = either (is_some attrs.size && not h.write) _ _ (tt, tt) (parts_set h.label attrs (File m contents) a f)

    was_read : (offset len : ℕ) (o : Option (Handle × Object)) → AnswerFits (read offset len o)
    was_read offset len None = (tt, tt)
    was_read offset len (Some (h, Directory m)) = (tt, tt)
    was_read offset len (Some (h, File m contents)) =
        either (not h.read) _ _ (tt, tt) (either (nat_le (length contents) offset) _ _ (tt, tt) (simp length-take (omega arith), tt))

    was_written : (offset : ℕ) (bytes : List ℕ) (o : Option (Handle × Object)) → OpenedFits o → AnswerFits (write moment offset bytes o)
    was_written offset bytes None f = (tt, tt)
    was_written offset bytes (Some (h, Directory m)) f = (tt, tt)
    was_written offset bytes (Some (h, File m contents)) f =
        either (not h.write) _ _ (tt, tt) (either (is_nil bytes) _ _ (tt, tt)
        (if_not (nat_lt MAX_FILE_SIZE (start_of h contents offset + length bytes)) _ _ (tt, tt)
        (λ small. (tt, ((modified_fits m f.0, length-written contents (start_of h contents offset) bytes f.1 (ltb-false MAX_FILE_SIZE (start_of h contents offset + length bytes) small)), tt)))))

    listed : (handle : ℕ) (h : Handle) (entries : List Entry) → IsShort (reply.Names entries) → AnswerFits (lists handle h entries)
    listed handle h [] short = (tt, tt)
    listed handle h (e ∷ es) short = (short, (tt, tt))

    directory_read : (handle : ℕ) (o : Option (Handle × Object)) → AnswerFits (read_directory tree handle o)
    directory_read handle None = (tt, tt)
    directory_read handle (Some (h, File m contents)) = (tt, tt)
    directory_read handle (Some (h, Directory m)) = listed handle h (listing_of tree h.listed (path_of tree.names h.label)) (listing_short h.listed (path_of tree.names h.label))

    moved_fits : (old new : Path) → IsPath new → AnswerFits (moves tree moment old new)
    moved_fits old new p = (tt, (p, all_both ChangeFits (touched tree moment (parent old)) (touched tree moment (parent new)) (touched_fits (parent old)) (touched_fits (parent new))))

    rooted : (path : Path) (answer : Outcome) → AnswerFits answer → AnswerFits (unless_root path answer)
    rooted [] answer f = (tt, tt)
    rooted (n ∷ path) answer f = f

    answered : (request : Request) → IsRequest request → AnswerFits (answer_to tree session number moment request)
    answered (OnPath path_op.Stat path) r = told (found_at tree path) (path_found path)
    answered (OnPath (path_op.SetStat attrs) path) r = rooted path _ (set_found attrs (found_at tree path) r.1 (path_found path))
    answered (OnPath (path_op.Mkdir attrs) path) r = rooted path _ (made path attrs (look_up tree path) r.0 r.1)
    answered (OnPath path_op.Rmdir path) r = rooted path _ (directory_removed path (found_at tree path))
    answered (OnPath path_op.Remove path) r = rooted path _ (file_removed path (found_at tree path))
    answered (OnPath path_op.OpenDir path) r = directory_opened (found_at tree path)
    answered (OnPath (path_op.Open flags attrs) path) r = rooted path _ (file_opened path flags attrs (look_up tree path) r.0 r.1)
    answered (ByHandle handle_op.Close handle) r = closed handle (handle_in tree session handle)
    answered (ByHandle handle_op.FStat handle) r = told_opened (opened tree session handle) (handle_opened (handle_in tree session handle))
    answered (ByHandle (handle_op.FSetStat attrs) handle) r = set_by_handle attrs (opened tree session handle) r.1 (handle_opened (handle_in tree session handle))
    answered (ByHandle (handle_op.Read offset len) handle) r = was_read offset len (opened tree session handle)
    answered (Write handle offset bytes) r = was_written offset bytes (opened tree session handle) (handle_opened (handle_in tree session handle))
    answered (ByHandle handle_op.ReadDir handle) r = directory_read handle (opened tree session handle)
    answered (OnPaths pair_op.Rename old new) r = rename_cases AnswerFits (λ code. (tt, tt)) (tt, tt) tree moment old new (λ _ _. moved_fits old new r.1) session number
    answered (OnPaths pair_op.PosixRename old new) r = posix_rename_cases AnswerFits (λ code. (tt, tt)) (tt, tt) tree moment old new (λ _ _. moved_fits old new r.1) session number
    answered (OnPaths pair_op.Link old new) r =
        link_cases AnswerFits (λ code. (tt, tt)) tree moment old new
        (λ label _ _ _. link_to_cases AnswerFits (λ code. (tt, tt)) tree moment new label (look_up tree new) refl (λ _ _. (tt, (r.1, touched_fits (parent new))))) session number

-- the answer to a call
pub answer_fits : (tree : Tree) (session number moment : ℕ) (request : Request) → TreeFits tree → ((label : ℕ) → links tree.names label ≤ MAX_LINKS) → IsCall number session moment request → AnswerFits (answer_to tree session number moment request)
answer_fits tree session number moment request fits few call = answered tree fits few session number moment call.number_fits call.moment_fits request call.request_fits
