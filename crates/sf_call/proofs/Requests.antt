-- The changes of a request are allowed.
use Rattle.std.proofs.Common.{◌≡◌, ◌≢◌, ◌<◌, ℕ, Bool, true, false, cond, not, nat_eq, nat_lt, nat_le, ◌+◌, ◌-◌, ◌&&◌, List, [], ◌∷◌, ◌++◌, length, length-append, length-take, take, Option, Some, None, IsSome, option_map, option_and_then, refl, sym, ap, ◌∙◌, append_assoc, eq-eqb, arith}
use Rattle.std.specs.List.{cons_option}
use Rattle.std.specs.Ordering.{nat_cmp}
use Rattle.std.specs.Cmp.{nat_cmp_total}
use Rattle.std.specs.Map.{remove_entry}
use Rattle.std.specs.BTreeMap.{insert_entry, is_at}
use Rattle.std.specs.FinMap.{nat_cmp-IsAntisymmetric}
use Rattle.std.specs.Option.{is_some}
use Rattle.std.proofs.lemmas.Bool.{leb-false}
use Rattle.std.proofs.lemmas.List.{take_all, take-append-le}
use Rattle.sf_path.specs.Names.{Name, Path}
use Rattle.sf_path.specs.Order.{same_path, path_cmp, parent}
use Rattle.sf_field.specs.declared.attrs.Attrs.{Attrs}
use Rattle.sf_field.specs.declared.open_flags.OpenFlags.{OpenFlags}
use Rattle.sf_reply.specs.declared.reply.Entry.{Entry}
use Rattle.sf_call.specs.declared.limits.TheConstants.{MAX_FILE_SIZE, MAX_LINKS}
use Rattle.sf_call.specs.declared.metadata.Metadata.{Metadata}
use Rattle.sf_call.specs.declared.metadata.FileType.{FileType}
use Rattle.sf_call.specs.declared.metadata.FileType.TheVariants as file_type
use Rattle.sf_call.specs.declared.lookup.Lookup.{Lookup}
use Rattle.sf_call.specs.declared.lookup.Lookup.TheVariants.{NoWay, Absent, At}
use Rattle.sf_call.specs.declared.request.Request.{Request}
use Rattle.sf_field.specs.declared.operation.PathOp.TheVariants as path_op
use Rattle.sf_field.specs.declared.operation.PairOp.TheVariants as pair_op
use Rattle.sf_field.specs.declared.operation.HandleOp.TheVariants as handle_op
use Rattle.sf_call.specs.declared.request.Request.TheVariants.{OnPath, OnPaths, ByHandle, Write}
use Rattle.sf_call.specs.Attributes.{Object, modified_at}
use Rattle.sf_call.specs.Attributes.Object.{Directory, File}
use Rattle.sf_call.specs.Tree.{Tree, Handle, label_at, object_of, handle_of, directory_metadata, directory_at, links, is_directory_object, is_directory, is_faulty_way, lookup_of, look_up, found_place, found_at, after_front, only_name, children, is_nil, is_empty}
use Rattle.sf_call.specs.Handles.{if_of, handle_in, opened_by, opened}
use Rattle.sf_call.specs.Listings.{path_of, listing_of}
use Rattle.sf_call.specs.Moves.{moved}
use Rattle.sf_call.specs.Changes.{touch, touched, changed}
use Rattle.sf_call.specs.Changes.Change.{SetObject, Move}
use Rattle.sf_call.specs.Allowed.{file_type_of, IsSetRightly, IsNewHandle, AreAllowed, IsMove}
use Rattle.sf_call.specs.Calls.{Outcome, answer_to, stat, refuses_size, with_size, sets, set_stat, make_directory, goes, remove_directory, remove_file, has_all_handles, open_directory, open_present, open_file, close, stat_opened, set_opened, read, start_of, write, lists, read_directory, unless_root, moves, rename_to, rename, replace_by, posix_rename, link_to, link}
use Rattle.sf_call.proofs.Ways.{open_way}
use Rattle.sf_call.proofs.ObjectKinds.{kinds_set}
use Rattle.sf_call.proofs.MovedNames.{same_path_is, same_name_itself, after_front-append, no_front, no_proper_front, moved_outside}
use Rattle.sf_call.proofs.Orders.{exact_paths}
use Rattle.sf_call.proofs.RenameCases.{apart, link_to_cases}
use Rattle.sf_call.proofs.LookUps.{other_put, other_removed}
use Rattle.sf_call.proofs.Founded.{IsFounded, is_file, kept_object, is_directory_label, is_directory_is, not_both}

-- the lookup of a path that exists
pub place_label : (tree : Tree) (path : Path) (label : ℕ) → look_up tree path ≡ At label → label_at tree.names path ≡ Some label
place_label tree path label e =
    elim (is_faulty_way tree path) as (λ b. cond b NoWay (lookup_of (label_at tree.names path)) ≡ At label → label_at tree.names path ≡ Some label) [
      | true ↦ λ k. cc
      | false ↦ elim (label_at tree.names path) as (λ o. lookup_of o ≡ At label → o ≡ Some label) [ None ↦ λ k. cc | Some l ↦ λ k. let same : l ≡ label = cc in ap Some same ]
    ] e

-- the lookup of a path that is absent
pub place_free : (tree : Tree) (path : Path) → look_up tree path ≡ Absent → (is_faulty_way tree path ≡ false) × (label_at tree.names path ≡ None)
place_free tree path e =
    elim (is_faulty_way tree path) as (λ b. cond b NoWay (lookup_of (label_at tree.names path)) ≡ Absent → (b ≡ false) × (label_at tree.names path ≡ None)) [
      | true ↦ λ k. cc
      | false ↦ λ k. (refl, elim (label_at tree.names path) as (λ o. lookup_of o ≡ Absent → o ≡ None) [ None ↦ λ _. refl | Some l ↦ λ j. cc ] k)
    ] e

way_open : (tree : Tree) (path : Path) → look_up tree path ≡ NoWay → is_faulty_way tree path ≡ false → ⊥
way_open tree path e clear =
    let place : lookup_of (label_at tree.names path) ≡ NoWay = sym (ap (λ (b : Bool). cond b NoWay (lookup_of (label_at tree.names path))) clear) ∙ e in
    no_way (label_at tree.names path) place
  where
    no_way : (o : Option ℕ) → lookup_of o ≡ NoWay → ⊥
    no_way None k = cc
    no_way (Some l) k = cc

-- the name of an entry is among the children
is_nil-cons_option : (o : Option Name) (names : List Name) → is_nil names ≡ false → is_nil (cons_option o names) ≡ false
is_nil-cons_option None names some = some
is_nil-cons_option (Some n) names some = refl

child_there : (names : List (Path × ℕ)) (path : Path) (name : Name) (label : ℕ) → label_at names (path ++ name ∷ []) ≡ Some label → is_empty names path ≡ false
child_there [] path name label e = cc
child_there (n ∷ names) path name label e =
    elim (same_path (path ++ name ∷ []) n.0) as (λ b. same_path (path ++ name ∷ []) n.0 ≡ b → cond b (Some n.1) (label_at names (path ++ name ∷ [])) ≡ Some label → is_nil (cons_option (only_name (after_front path n.0)) (children names path)) ≡ false) [
      | true ↦ λ same k.
          ap (λ (p : Path). is_nil (cons_option (only_name (after_front path p)) (children names path))) (sym (same_path_is (path ++ name ∷ []) n.0 same))
          ∙ ap (λ o. is_nil (cons_option (only_name o) (children names path))) (after_front-append path (name ∷ []))
      | false ↦ λ other k. is_nil-cons_option (only_name (after_front path n.0)) (children names path) (child_there names path name label k)
    ] refl e

-- the paths below a path that exists
front_directory : (tree : Tree) (path : Path) (name : Name) (rest : Path) (label : ℕ) → IsFounded tree → label_at tree.names (path ++ name ∷ rest) ≡ Some label → is_directory tree path ≡ true
front_directory tree path name rest label f e =
    let lt : length path < length (path ++ name ∷ rest) = omega (arith, length-append path (name ∷ rest)) in
    let front = (open_way tree (path ++ name ∷ rest)).0 (f.way (path ++ name ∷ rest) label e) (length path) lt in
    ap (is_directory tree) (sym (take-append-le (length path) path (name ∷ rest) (omega arith) ∙ take_all (length path) path (omega arith))) ∙ front

label_or_none : (o : Option ℕ) → ((label : ℕ) → o ≡ Some label → ⊥) → o ≡ None
label_or_none None no_label = refl
label_or_none (Some label) no_label = absurd (no_label label refl)

pub is_there_directory : (tree : Tree) (path : Path) → is_directory tree path ≡ true → (label : ℕ) × (label_at tree.names path ≡ Some label)
is_there_directory tree path h =
    elim (label_at tree.names path) as (λ o. is_directory_label tree.objects o ≡ true → (label : ℕ) × (o ≡ Some label)) [
      | None ↦ λ k. cc
      | Some label ↦ λ k. (label, refl)
    ] (sym (is_directory_is tree path) ∙ h)

file_is_none : (o : Option Object) → is_file o ≡ true → is_directory_object o ≡ true → ⊥
file_is_none None file directory = cc
file_is_none (Some o) file directory = not_both o file directory

-- a session's handle is open
handle_there : (tree : Tree) (session handle : ℕ) (h : Handle) → handle_in tree session handle ≡ Some h → handle_of tree.handles handle ≡ Some h
handle_there tree session handle h e =
    elim (handle_of tree.handles handle) as (λ o. option_and_then (if_of session) o ≡ Some h → o ≡ Some h) [
      | None ↦ λ k. cc
      | Some g ↦ elim (nat_eq g.session session) as (λ b. cond b (Some g) None ≡ Some h → Some g ≡ Some h) [ true ↦ λ k. k | false ↦ λ k. cc ]
    ] e

-- the inode number of a directory, and its object
pub directory_there : (tree : Tree) (path : Path) (d : ℕ × Metadata) → directory_at tree path ≡ Some d → (label_at tree.names path ≡ Some d.0) × (object_of tree.objects d.0 ≡ Some (Directory d.1))
directory_there tree path d e =
    elim (label_at tree.names path) as (λ o. option_and_then (λ label. option_map (λ m. (label, m)) (option_and_then directory_metadata (object_of tree.objects label))) o ≡ Some d
    → (o ≡ Some d.0) × (object_of tree.objects d.0 ≡ Some (Directory d.1))) [
      | None ↦ λ k. cc
      | Some label ↦ λ k. directory_object label (object_of tree.objects label) refl k
    ] e where
      directory_object : (label : ℕ) (o : Option Object) → object_of tree.objects label ≡ o → option_map (λ m. (label, m)) (option_and_then directory_metadata o) ≡ Some d
          → (Some label ≡ Some d.0) × (object_of tree.objects d.0 ≡ Some (Directory d.1))
      directory_object label None is k = cc
      directory_object label (Some (File m contents)) is k = cc
      directory_object label (Some (Directory m)) is k =
          let same : (label, m) ≡ d = cc in
          let labels : label ≡ d.0 = ap (λ (x : ℕ × Metadata). x.0) same in
          let metadata : m ≡ d.1 = ap (λ (x : ℕ × Metadata). x.1) same in
          (ap Some labels, ap (object_of tree.objects) (sym labels) ∙ is ∙ ap (λ (x : Metadata). Some (Directory x)) metadata)

-- a path other than the root is not its parent
other_parent : (path : Path) → path ≢ [] → parent path ≢ path
other_parent [] not_root same = not_root refl
other_parent (n ∷ path) not_root same =
    let lengths : length (take (length (n ∷ path) - 1) (n ∷ path)) ≡ length (n ∷ path) = ap length same in
    let short = length-take (length (n ∷ path) - 1) (n ∷ path) in omega arith

-- the file type of a directory or a file
abbrev pub kind_by : Bool → FileType
kind_by b = cond b file_type.Directory file_type.File

kind_told : (o : Option Object) → is_some o ≡ true → option_map file_type_of o ≡ Some (kind_by (is_directory_object o))
kind_told None some = cc
kind_told (Some (Directory m)) some = refl
kind_told (Some (File m contents)) some = refl

pub kind_at : (tree : Tree) (path : Path) (label : ℕ) → IsSome (object_of tree.objects label) → label_at tree.names path ≡ Some label
    → option_map file_type_of (object_of tree.objects label) ≡ Some (kind_by (is_directory tree path))
kind_at tree path label some e =
    kind_told (object_of tree.objects label) some
    ∙ ap (λ b. Some (kind_by b)) (ap (is_directory_label tree.objects) (sym e) ∙ sym (is_directory_is tree path))

pub both_true : (a b : Bool) → a && b ≡ true → (a ≡ true) × (b ≡ true)
both_true true b t = (refl, t)
both_true false b t = cc

-- a path begins with itself
pub front_itself : (p : Path) → after_front p p ≡ Some []
front_itself [] = refl
front_itself (n ∷ p) = ap (λ b. cond b (after_front p p) None) (same_name_itself n) ∙ front_itself p

not_itself : (p q : Path) → p ≡ q → after_front p q ≡ None → ⊥
not_itself p q same none = let some : Some [] ≡ None = sym (front_itself p) ∙ ap (after_front p) same ∙ none in cc

-- a path that is no prefix of another is no prefix of its parent
pub no_parent : (p q : Path) → after_front p q ≡ None → after_front p (parent p) ≡ None
no_parent [] q none = cc
no_parent (n ∷ p) q none = no_proper_front (n ∷ p) (length (n ∷ p) - 1) (omega arith)

module _ (tree : Tree) (number moment : ℕ) (unused : (q : Path) → label_at tree.names q ≢ Some number) (no_object : object_of tree.objects number ≡ None) (unopened : handle_of tree.handles number ≡ None) (f : IsFounded tree)
    (one : (path other : Path) (label : ℕ) → is_directory_object (object_of tree.objects label) ≡ true → label_at tree.names path ≡ Some label → label_at tree.names other ≡ Some label → path ≡ other) where
  abbrev pub IsRight : Outcome → Type 0
  IsRight answer = AreAllowed number tree answer.changes

  either : (b : Bool) (this that : Outcome) → IsRight this → IsRight that → IsRight (cond b this that)
  either true this that p q = p
  either false this that p q = q

  either_if : (b : Bool) (this that : Outcome) → (b ≡ true → IsRight this) → (b ≡ false → IsRight that) → IsRight (cond b this that)
  either_if true this that p q = p refl
  either_if false this that p q = q refl

  -- a directory that kept its file type may be set
  touch_kinds : (t : Tree) (path : Path) (at : Option (ℕ × Metadata)) → directory_at tree path ≡ at
      → ((label : ℕ) → label_at tree.names path ≡ Some label → option_map file_type_of (object_of t.objects label) ≡ option_map file_type_of (object_of tree.objects label)) → AreAllowed number t (touch moment at)
  touch_kinds t path None e same = tt
  touch_kinds t path (Some d) e same = let there = directory_there tree path d e in (same d.0 there.0 ∙ ap (option_map file_type_of) there.1, tt)

  -- a directory that another change left alone may be set
  allowed_touch : (t : Tree) (path : Path) (at : Option (ℕ × Metadata)) → directory_at tree path ≡ at
      → ((label : ℕ) → label_at tree.names path ≡ Some label → object_of t.objects label ≡ object_of tree.objects label) → AreAllowed number t (touch moment at)
  allowed_touch t path at e same = touch_kinds t path at e (λ label named. ap (option_map file_type_of) (same label named))

  new_leaves : (path : Path) (object : Object) (label : ℕ) → label_at tree.names path ≡ Some label → object_of (insert_entry nat_cmp tree.objects number object) label ≡ object_of tree.objects label
  new_leaves path object label e = other_put nat_cmp nat_cmp-IsAntisymmetric nat_cmp_total tree.objects number object label (λ same. unused path (e ∙ ap Some same))

  found_stat : (found : Option (ℕ × Object)) → IsRight (stat found)
  found_stat None = tt
  found_stat (Some (label, Directory m)) = tt
  found_stat (Some (label, File m contents)) = tt

  sized : (label : ℕ) (attrs : Attrs) (size : Option ℕ) (m : Metadata) (contents : List ℕ) → object_of tree.objects label ≡ Some (File m contents) → IsSetRightly tree label (with_size moment attrs size m contents)
  sized label attrs None m contents e = ap (option_map file_type_of) e
  sized label attrs (Some size) m contents e = ap (option_map file_type_of) e

  parts_set : (label : ℕ) (attrs : Attrs) (object : Object) → object_of tree.objects label ≡ Some object → IsRight (sets moment label attrs object)
  parts_set label attrs (Directory m) e = either (refuses_size (Directory m) attrs.size) _ _ tt (ap (option_map file_type_of) e, tt)
  parts_set label attrs (File m contents) e = either (refuses_size (File m contents) attrs.size) _ _ tt (sized label attrs attrs.size m contents e, tt)

  set_object : (attrs : Attrs) (label : ℕ) (o : Option Object) → object_of tree.objects label ≡ o → IsRight (set_stat moment attrs (option_map (λ (object : Object). (label, object)) o))
  set_object attrs label None e = tt
  set_object attrs label (Some (Directory m)) e = parts_set label attrs (Directory m) e
  set_object attrs label (Some (File m contents)) e = parts_set label attrs (File m contents) e

  set_place : (attrs : Attrs) (place : Lookup) → IsRight (set_stat moment attrs (found_place tree.objects place))
  set_place attrs NoWay = tt
  set_place attrs Absent = tt
  set_place attrs (At label) = set_object attrs label (object_of tree.objects label) refl

  made : (path : Path) (attrs : Attrs) (place : Lookup) → look_up tree path ≡ place → IsRight (make_directory tree number moment path attrs place)
  made path attrs NoWay e = tt
  made path attrs (At label) e = tt
  made path attrs Absent e =
      let free = place_free tree path e in
      (record { is_number = refl; free = free.1; way = free.0; unused = unused; no_object = no_object }, allowed_touch _ (parent path) (directory_at tree (parent path)) refl (new_leaves (parent path) _))

  gone : (path : Path) → path ≢ [] → ((name : Name) (rest : Path) → label_at tree.names (path ++ name ∷ rest) ≡ None) → IsRight (goes tree moment path)
  gone path not_root none = (
    none,
    allowed_touch _ (parent path) (directory_at tree (parent path)) refl
        (λ label e. kept_object (record tree { names = remove_entry (is_at (path_cmp path)) tree.names }) (parent path) label
        (other_removed path_cmp exact_paths path (parent path) tree.names (other_parent path not_root) ∙ e)),
  )

  -- no path is below an empty directory or a file
  below_empty : (path : Path) → is_empty tree.names path ≡ true → (name : Name) (rest : Path) (label : ℕ) → label_at tree.names (path ++ name ∷ rest) ≡ Some label → ⊥
  below_empty path none name [] label e = let some : is_empty tree.names path ≡ false = child_there tree.names path name label e in cc
  below_empty path none name (n ∷ rest) label e =
      let e' : label_at tree.names ((path ++ name ∷ []) ++ n ∷ rest) ≡ Some label = ap (label_at tree.names) (append_assoc path (name ∷ []) (n ∷ rest)) ∙ e in
      let named = is_there_directory tree (path ++ name ∷ []) (front_directory tree (path ++ name ∷ []) n rest label f e') in
      let some : is_empty tree.names path ≡ false = child_there tree.names path name named.0 named.1 in cc

  below_file : (path : Path) (at : ℕ) → label_at tree.names path ≡ Some at → is_file (object_of tree.objects at) ≡ true → (name : Name) (rest : Path) (label : ℕ) → label_at tree.names (path ++ name ∷ rest) ≡ Some label → ⊥
  below_file path at here file name rest label e =
      let directory : is_directory_label tree.objects (Some at) ≡ true = ap (is_directory_label tree.objects) (sym here) ∙ sym (is_directory_is tree path) ∙ front_directory tree path name rest label f e in
      file_is_none (object_of tree.objects at) file directory

  directory_removed : (path : Path) → path ≢ [] → (place : Lookup) → look_up tree path ≡ place → IsRight (remove_directory tree moment path (found_place tree.objects place))
  directory_removed path not_root NoWay e = tt
  directory_removed path not_root Absent e = tt
  directory_removed path not_root (At label) e = removed_object (object_of tree.objects label) where
    removed_object : (o : Option Object) → IsRight (remove_directory tree moment path (option_map (λ (object : Object). (label, object)) o))
    removed_object None = tt
    removed_object (Some (File m contents)) = tt
    removed_object (Some (Directory m)) =
        either_if (is_empty tree.names path) _ _
        (λ none. gone path not_root (λ name rest. label_or_none (label_at tree.names (path ++ name ∷ rest)) (λ l there. below_empty path none name rest l there)))
        (λ some. tt)

  file_removed : (path : Path) → path ≢ [] → (place : Lookup) → look_up tree path ≡ place → IsRight (remove_file tree moment path (found_place tree.objects place))
  file_removed path not_root NoWay e = tt
  file_removed path not_root Absent e = tt
  file_removed path not_root (At label) e = removed_object (object_of tree.objects label) refl where
    removed_object : (o : Option Object) → object_of tree.objects label ≡ o → IsRight (remove_file tree moment path (option_map (λ (object : Object). (label, object)) o))
    removed_object None is = tt
    removed_object (Some (Directory m)) is = tt
    removed_object (Some (File m contents)) is =
        gone path not_root (λ name rest. label_or_none (label_at tree.names (path ++ name ∷ rest)) (λ l there. below_file path label (place_label tree path label e) (ap is_file is) name rest l there))

  new_handle : IsNewHandle number tree number
  new_handle = record { is_number = refl; free = unopened }

  directory_opened : (session : ℕ) (found : Option (ℕ × Object)) → IsRight (open_directory tree session number found)
  directory_opened session None = tt
  directory_opened session (Some (label, File m contents)) = tt
  directory_opened session (Some (label, Directory m)) = either (has_all_handles tree session) _ _ tt (new_handle, tt)

  present_opened : (session : ℕ) (flags : OpenFlags) (label : ℕ) (o : Option Object) → object_of tree.objects label ≡ o → IsRight (open_present tree session number moment flags (option_map (λ (object : Object). (label, object)) o))
  present_opened session flags label None e = tt
  present_opened session flags label (Some (Directory m)) e = tt
  present_opened session flags label (Some (File m contents)) e =
      either (has_all_handles tree session) _ _ tt (either (flags.truncate && flags.write) _ _ (new_handle, (ap (option_map file_type_of) e, tt)) (new_handle, tt))

  file_opened : (session : ℕ) (path : Path) (flags : OpenFlags) (attrs : Attrs) (place : Lookup) → look_up tree path ≡ place → IsRight (open_file tree session number moment path flags attrs place)
  file_opened session path flags attrs NoWay e = tt
  file_opened session path flags attrs (At label) e =
      either (flags.create && flags.exclusive) _ _ tt (present_opened session flags label (object_of tree.objects label) refl)
  file_opened session path flags attrs Absent e =
      let free = place_free tree path e in
      either (not flags.create) _ _ tt (either (has_all_handles tree session) _ _ tt
      (new_handle, (record { is_number = refl; free = free.1; way = free.0; unused = unused; no_object = no_object }, allowed_touch _ (parent path) (directory_at tree (parent path)) refl (new_leaves (parent path) _))))

  closed : (handle : ℕ) (o : Option Handle) → IsRight (close handle o)
  closed handle None = tt
  closed handle (Some h) = (tt, tt)

  opened_stat : (o : Option (Handle × Object)) → IsRight (stat_opened o)
  opened_stat None = tt
  opened_stat (Some (h, Directory m)) = tt
  opened_stat (Some (h, File m contents)) = tt

  set_by_object : (attrs : Attrs) (h : Handle) (o : Option Object) → object_of tree.objects h.label ≡ o → IsRight (set_opened moment attrs (option_map (λ (object : Object). (h, object)) o))
  set_by_object attrs h None e = tt
  set_by_object attrs h (Some (Directory m)) e = either (nat_eq h.label 0) _ _ tt (parts_set h.label attrs (Directory m) e)
  set_by_object attrs h (Some (File m contents)) e = either (is_some attrs.size && not h.write) _ _ tt (parts_set h.label attrs (File m contents) e)

  set_by_handle : (attrs : Attrs) (o : Option Handle) → IsRight (set_opened moment attrs (option_and_then (opened_by tree) o))
  set_by_handle attrs None = tt
  set_by_handle attrs (Some h) = set_by_object attrs h (object_of tree.objects h.label) refl

  was_read : (offset len : ℕ) (o : Option (Handle × Object)) → IsRight (read offset len o)
  was_read offset len None = tt
  was_read offset len (Some (h, Directory m)) = tt
  was_read offset len (Some (h, File m contents)) = either (not h.read) _ _ tt (either (nat_le (length contents) offset) _ _ tt tt)

  written_object : (offset : ℕ) (bytes : List ℕ) (h : Handle) (o : Option Object) → object_of tree.objects h.label ≡ o → IsRight (write moment offset bytes (option_map (λ (object : Object). (h, object)) o))
  written_object offset bytes h None e = tt
  written_object offset bytes h (Some (Directory m)) e = tt
  written_object offset bytes h (Some (File m contents)) e =
      either (not h.write) _ _ tt (either (is_nil bytes) _ _ tt
      (either (nat_lt MAX_FILE_SIZE (start_of h contents offset + length bytes)) _ _ tt (ap (option_map file_type_of) e, tt)))

  was_written : (offset : ℕ) (bytes : List ℕ) (o : Option Handle) → IsRight (write moment offset bytes (option_and_then (opened_by tree) o))
  was_written offset bytes None = tt
  was_written offset bytes (Some h) = written_object offset bytes h (object_of tree.objects h.label) refl

  listed : (handle : ℕ) (h : Handle) (entries : List Entry) → handle_of tree.handles handle ≡ Some h → IsRight (lists handle h entries)
  listed handle h [] there = tt
  listed handle h (e ∷ es) there = ((h, there, refl), tt)

  listed_object : (handle : ℕ) (h : Handle) (o : Option Object) → handle_of tree.handles handle ≡ Some h → IsRight (read_directory tree handle (option_map (λ (object : Object). (h, object)) o))
  listed_object handle h None there = tt
  listed_object handle h (Some (File m contents)) there = tt
  listed_object handle h (Some (Directory m)) there = listed handle h (listing_of tree h.listed (path_of tree.names h.label)) there

  directory_read : (session handle : ℕ) (o : Option Handle) → handle_in tree session handle ≡ o → IsRight (read_directory tree handle (option_and_then (opened_by tree) o))
  directory_read session handle None e = tt
  directory_read session handle (Some h) e = listed_object handle h (object_of tree.objects h.label) (handle_there tree session handle h e)

  rooted : (path : Path) (answer : Outcome) → (path ≢ [] → IsRight answer) → IsRight (unless_root path answer)
  rooted [] answer p = tt
  rooted (n ∷ path) answer p = p (λ e. cc)

  -- ---- renames

  touch_both : (t : Tree) (path other : Path) (at : Option (ℕ × Metadata)) → directory_at tree path ≡ at
      → ((label : ℕ) → label_at tree.names path ≡ Some label → option_map file_type_of (object_of t.objects label) ≡ option_map file_type_of (object_of tree.objects label))
      → ((label : ℕ) → label_at tree.names other ≡ Some label → option_map file_type_of (object_of t.objects label) ≡ option_map file_type_of (object_of tree.objects label))
      → AreAllowed number t (touch moment at ++ touched tree moment other)
  touch_both t path other None e same also = touch_kinds t other (directory_at tree other) refl also
  touch_both t path other (Some d) e same also =
      let there = directory_there tree path d e in
      let object : Object = Directory (modified_at moment d.1) in
      let right : option_map file_type_of (object_of t.objects d.0) ≡ Some (file_type_of object) = same d.0 there.0 ∙ ap (option_map file_type_of) there.1 in
      (right, touch_kinds (changed t (SetObject d.0 object)) other (directory_at tree other) refl (λ label at. kinds_set t.objects d.0 label object right ∙ also label at))

  moved_leaves : (old new path : Path) (label : ℕ) → after_front old path ≡ None → after_front new path ≡ None → label_at tree.names path ≡ Some label
      → option_map file_type_of (object_of (changed tree (Move old new)).objects label) ≡ option_map file_type_of (object_of tree.objects label)
  moved_leaves old new path label not_old not_new e =
      ap (option_map file_type_of) (kept_object (record tree { names = moved tree.names old new }) path label (moved_outside tree.names old new path not_old not_new ∙ e))

  may_move : (old new : Path) → IsMove tree old new → IsRight (moves tree moment old new)
  may_move old new may = (
    may,
    touch_both (changed tree (Move old new)) (parent old) (parent new) (directory_at tree (parent old)) refl
        (λ label e. moved_leaves old new (parent old) label (no_parent old new may.not_inside) (no_front new old (length old - 1) may.not_around) e)
        (λ label e. moved_leaves old new (parent new) label (no_front old new (length new - 1) may.not_inside) (no_parent new old may.not_around) e),
  )

  below_none : (path : Path) → label_at tree.names path ≡ None → (name : Name) (rest : Path) (label : ℕ) → label_at tree.names (path ++ name ∷ rest) ≡ Some label → ⊥
  below_none path none name rest label e =
      let named = is_there_directory tree path (front_directory tree path name rest label f e) in
      let found : Some named.0 ≡ None = sym named.1 ∙ none in cc

  module _ (old new : Path) (label : ℕ) (named : label_at tree.names old ≡ Some label) (not_inside : after_front old new ≡ None) (not_around : after_front new old ≡ None) where
    to_free : look_up tree new ≡ Absent → IsRight (moves tree moment old new)
    to_free e =
        let free = place_free tree new e in
        may_move old new (record {
          label = label;
          named = named;
          not_inside = not_inside;
          not_around = not_around;
          way = free.0;
          bare = λ name rest. label_or_none (label_at tree.names (new ++ name ∷ rest)) (λ l there. below_none new free.1 name rest l there);
          alike = λ replaced at. let found : Some replaced ≡ None = sym at ∙ free.1 in cc;
          other = λ at. let found : Some label ≡ None = sym at ∙ free.1 in cc;
        })

    over : (at : ℕ) → label_at tree.names new ≡ Some at → ((name : Name) (rest : Path) (l : ℕ) → label_at tree.names (new ++ name ∷ rest) ≡ Some l → ⊥)
        → option_map file_type_of (object_of tree.objects at) ≡ Some (kind_by (is_directory tree old)) → (at ≡ label → ⊥) → IsRight (moves tree moment old new)
    over at here below kind another =
        may_move old new (record {
          label = label;
          named = named;
          not_inside = not_inside;
          not_around = not_around;
          way = f.way new at here;
          bare = λ name rest. label_or_none (label_at tree.names (new ++ name ∷ rest)) (λ l there. below name rest l there);
          alike = λ replaced there. let same : Some replaced ≡ Some at = sym there ∙ here in let is : replaced ≡ at = cc in
              ap (λ (l : ℕ). option_map file_type_of (object_of tree.objects l)) is ∙ kind ∙ sym (kind_at tree old label (f.object old label named) named);
          other = λ there. let same : Some at ≡ Some label = sym here ∙ there in another cc;
        })

    moved_to : (place : Lookup) → look_up tree new ≡ place → IsRight (rename_to tree moment old new place)
    moved_to NoWay e = tt
    moved_to (At at) e = tt
    moved_to Absent e = to_free e

    replaced : (place : Lookup) → look_up tree new ≡ place → IsRight (replace_by tree moment old new label (found_place tree.objects place))
    replaced NoWay e = either_if (is_faulty_way tree new) _ _ (λ faulty. tt) (λ clear. absurd (way_open tree new e clear))
    replaced Absent e = either_if (is_faulty_way tree new) _ _ (λ faulty. tt) (λ clear. to_free e)
    replaced (At at) e = replaced_object (object_of tree.objects at) refl where
      here : label_at tree.names new ≡ Some at
      here = place_label tree new at e

      replaced_object : (o : Option Object) → object_of tree.objects at ≡ o → IsRight (replace_by tree moment old new label (option_map (λ (object : Object). (at, object)) o))
      replaced_object None is = let some : is_some (object_of tree.objects at) ≡ true = f.object new at here in let none : is_some (object_of tree.objects at) ≡ false = ap (λ (o : Option Object). is_some o) is in cc
      replaced_object (Some (Directory m)) is =
          either_if (is_directory tree old && is_empty tree.names new) _ _
          (λ both. let two = both_true (is_directory tree old) (is_empty tree.names new) both in
          over at here (below_empty new two.1) (ap (option_map file_type_of) is ∙ ap (λ b. Some (kind_by b)) (sym two.0))
          (λ same. not_itself old new (one old new label (ap (λ (l : ℕ). is_directory_object (object_of tree.objects l)) (sym same) ∙ ap is_directory_object is) named (here ∙ ap Some same)) not_inside))
          (λ other. tt)
      replaced_object (Some (File m contents)) is =
          either_if (nat_eq label at) _ _ (λ _. tt)
          (λ apart. either_if (is_directory tree old) _ _ (λ directory. tt)
          (λ file. over at here (below_file new at here (ap is_file is)) (ap (option_map file_type_of) is ∙ ap (λ b. Some (kind_by b)) (sym file))
          (λ same. let tied : nat_eq label at ≡ true = eq-eqb label at (sym same) in cc)))

  renamed : (old new : Path) (place : Lookup) → look_up tree old ≡ place → IsRight (rename tree moment old new place)
  renamed old new NoWay e = tt
  renamed old new Absent e = tt
  renamed old new (At label) e =
      apart IsRight old new _ tt (λ not_inside not_around. moved_to old new label (place_label tree old label e) not_inside not_around (look_up tree new) refl)

  posix_renamed : (old new : Path) (place : Lookup) → look_up tree old ≡ place → IsRight (posix_rename tree moment old new place)
  posix_renamed old new NoWay e = tt
  posix_renamed old new Absent e = tt
  posix_renamed old new (At label) e =
      either (same_path old new) _ _ tt
      (apart IsRight old new _ tt (λ not_inside not_around. replaced old new label (place_label tree old label e) not_inside not_around (look_up tree new) refl))

  -- ---- links

  linked_to : (new : Path) (label : ℕ) (m : Metadata) (contents : List ℕ) → object_of tree.objects label ≡ Some (File m contents) → IsRight (link_to tree moment new label (look_up tree new))
  linked_to new label m contents is =
      link_to_cases IsRight (λ code. tt) tree moment new label (look_up tree new) refl
      (λ e few.
      let free = place_free tree new e in (
        record { free = free.1; way = free.0; of_file = ap (option_map file_type_of) is; fewer = leb-false MAX_LINKS (links tree.names label) few },
        allowed_touch _ (parent new) (directory_at tree (parent new)) refl (λ l named. refl),
      ))

  linked : (new : Path) (place : Lookup) → IsRight (link tree moment new (found_place tree.objects place))
  linked new NoWay = tt
  linked new Absent = tt
  linked new (At label) = linked_object (object_of tree.objects label) refl where
    linked_object : (o : Option Object) → object_of tree.objects label ≡ o → IsRight (link tree moment new (option_map (λ (object : Object). (label, object)) o))
    linked_object None is = tt
    linked_object (Some (Directory m)) is = tt
    linked_object (Some (File m contents)) is = linked_to new label m contents is

  pub allowed : (session : ℕ) (request : Request) → AreAllowed number tree (answer_to tree session number moment request).changes
  allowed session (OnPath path_op.Stat path) = found_stat (found_at tree path)
  allowed session (OnPath (path_op.SetStat attrs) path) = rooted path _ (λ not_root. set_place attrs (look_up tree path))
  allowed session (OnPath (path_op.Mkdir attrs) path) = rooted path _ (λ not_root. made path attrs (look_up tree path) refl)
  allowed session (OnPath path_op.Rmdir path) = rooted path _ (λ not_root. directory_removed path not_root (look_up tree path) refl)
  allowed session (OnPath path_op.Remove path) = rooted path _ (λ not_root. file_removed path not_root (look_up tree path) refl)
  allowed session (OnPath path_op.OpenDir path) = directory_opened session (found_at tree path)
  allowed session (OnPath (path_op.Open flags attrs) path) = rooted path _ (λ not_root. file_opened session path flags attrs (look_up tree path) refl)
  allowed session (ByHandle handle_op.Close handle) = closed handle (handle_in tree session handle)
  allowed session (ByHandle handle_op.FStat handle) = opened_stat (opened tree session handle)
  allowed session (ByHandle (handle_op.FSetStat attrs) handle) = set_by_handle attrs (handle_in tree session handle)
  allowed session (ByHandle (handle_op.Read offset len) handle) = was_read offset len (opened tree session handle)
  allowed session (Write handle offset bytes) = was_written offset bytes (handle_in tree session handle)
  allowed session (ByHandle handle_op.ReadDir handle) = directory_read session handle (handle_in tree session handle) refl
  allowed session (OnPaths pair_op.Rename old new) = rooted old _ (λ _. rooted new _ (λ _. renamed old new (look_up tree old) refl))
  allowed session (OnPaths pair_op.PosixRename old new) = rooted old _ (λ _. rooted new _ (λ _. posix_renamed old new (look_up tree old) refl))
  allowed session (OnPaths pair_op.Link old new) = rooted old _ (λ _. rooted new _ (λ _. linked new (look_up tree old)))
