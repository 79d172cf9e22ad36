-- After a history each path resolves over directories to an object.
use Rattle.std.proofs.Common.{◌≡◌, ◌≢◌, ℕ, zero, suc, ◌<◌, nat_eq, Bool, true, false, cond, not, ◌||◌, List, [], ◌∷◌, ◌++◌, length, filter, take, Option, Some, None, option_map, option_and_then, refl, sym, ap, ◌∙◌, eq-eqb, inl, inr, arith}
use Rattle.std.specs.List.{list_any}
use Rattle.std.specs.Option.{is_some}
use Rattle.std.specs.declared.cmp.Ordering.TheVariants.{Less, Equal, Greater}
use Rattle.std.specs.Ordering.{nat_cmp, is_eq}
use Rattle.std.specs.Cmp.{tied_itself, nat_cmp_total}
use Rattle.std.specs.Map.{remove_entry, set_value}
use Rattle.std.specs.BTreeMap.{insert_entry, is_at}
use Rattle.std.specs.FinMap.{nat_cmp-IsAntisymmetric, put}
use Rattle.std.specs.FinMap.Entries.{find-put}
use Rattle.std.proofs.lemmas.Map.Entries.{lookup-filter-keys}
use Rattle.sf_path.specs.Names.{Name, Path}
use Rattle.sf_path.specs.Order.{path_cmp, same_path}
use Rattle.sf_call.specs.declared.metadata.Metadata.{Metadata}
use Rattle.sf_call.specs.Attributes.{Object}
use Rattle.sf_call.specs.Attributes.Object.{Directory, File}
use Rattle.sf_call.specs.Tree.{Tree, IsOrderedTree, label_at, object_of, directory_metadata, is_directory_object, is_directory, is_faulty_way, after_front, is_used, kept, empty_tree}
use Rattle.sf_call.specs.Changes.{Change, changed}
use Rattle.sf_call.specs.Changes.Change.{SetObject, NewPath, NewName, GonePath, Move, OpenHandle, SetHandle, CloseHandle}
use Rattle.sf_call.specs.declared.metadata.FileType.TheVariants as file_type
use Rattle.sf_call.specs.Moves.{moved}
use Rattle.sf_call.specs.Allowed.{file_type_of, IsSetRightly, IsNewName, IsMove, MayChange}
use Rattle.sf_call.proofs.Orders.{exact_paths, find_is}
use Rattle.sf_call.proofs.Ordered.{put_is}
use Rattle.sf_call.proofs.LookUps.{found_removed, other_removed}
use Rattle.sf_call.proofs.Ways.{open_way}
use Rattle.sf_call.proofs.MovedNames.{is_equal, lookup-insert_entry, same_path_is, moved_to_new, moved_outside, came_from, no_front, no_proper_front, fronts_append, fronts_behind}
use Rattle.sf_call.proofs.Labels.{root_alone}

-- a path with an inode number resolves over directories to an object
pub record IsFounded (tree : Tree) : Type 0 where
  pub object : (path : Path) (label : ℕ) → label_at tree.names path ≡ Some label → is_some (object_of tree.objects label) ≡ true
  pub way : (path : Path) (label : ℕ) → label_at tree.names path ≡ Some label → is_faulty_way tree path ≡ false

-- a directory stays one
abbrev pub KeepsDirectories : Tree → Tree → Type 0
KeepsDirectories tree next = (path : Path) → is_directory tree path ≡ true → is_directory next path ≡ true

way_stays : (tree next : Tree) → KeepsDirectories tree next → (path : Path) → is_faulty_way tree path ≡ false → is_faulty_way next path ≡ false
way_stays tree next keeps path open_before = (open_way next path).1 (λ n lt. keeps (take n path) ((open_way tree path).0 open_before n lt))

-- the object of an inode number after an insertion or a setting
object_put : (objects : List (ℕ × Object)) (label : ℕ) (object : Object) (l : ℕ) → object_of (insert_entry nat_cmp objects label object) l ≡ cond (is_at (nat_cmp l) label) (Some object) (object_of objects l)
object_put objects label object l =
    ap (λ (es : List (ℕ × Object)). object_of es l) (put_is nat_cmp objects label object) ∙ find_is nat_cmp (put nat_cmp label object objects) l
    ∙ find-put nat_cmp nat_cmp_total l label object objects ∙ ap (cond (is_at (nat_cmp l) label) (Some object)) (sym (find_is nat_cmp objects l))

abbrev pub is_file : Option Object → Bool
is_file None = false
is_file (Some (Directory m)) = false
is_file (Some (File m contents)) = true

file_of_kind : (o : Option Object) → option_map file_type_of o ≡ Some file_type.File → is_file o ≡ true
file_of_kind None e = cc
file_of_kind (Some (Directory m)) e = cc
file_of_kind (Some (File m contents)) e = refl

directory_set : (objects : List (ℕ × Object)) (label l : ℕ) (m : Metadata) → is_directory_object (object_of objects l) ≡ true → is_directory_object (object_of (set_value (is_at (nat_cmp label)) objects (Directory m)) l) ≡ true
directory_set [] label l m h = h
directory_set (e ∷ es) label l m h =
    elim (is_at (nat_cmp label) e.0) as (λ b. is_directory_object (object_of (cond b ((e.0, Directory m) ∷ es) (e ∷ set_value (is_at (nat_cmp label)) es (Directory m))) l) ≡ true) [
      | true ↦ elim (is_at (nat_cmp l) e.0) as (λ b. is_directory_object (cond b (Some e.1) (object_of es l)) ≡ true → is_directory_object (cond b (Some (Directory m)) (object_of es l)) ≡ true) [
        | true ↦ λ k. refl
        | false ↦ λ k. k
      ] h
      | false ↦ elim (is_at (nat_cmp l) e.0) as (λ b. is_directory_object (cond b (Some e.1) (object_of es l)) ≡ true → is_directory_object (cond b (Some e.1) (object_of (set_value (is_at (nat_cmp label)) es (Directory m)) l)) ≡ true) [
        | true ↦ λ k. k
        | false ↦ λ k. directory_set es label l m k
      ] h
    ]

object_set : (objects : List (ℕ × Object)) (test : ℕ → Bool) (l : ℕ) (o : Object) → is_some (object_of objects l) ≡ true → is_some (object_of (set_value test objects o) l) ≡ true
object_set [] test l o h = h
object_set (e ∷ es) test l o h =
    elim (test e.0) as (λ b. is_some (object_of (cond b ((e.0, o) ∷ es) (e ∷ set_value test es o)) l) ≡ true) [
      | true ↦ elim (is_at (nat_cmp l) e.0) as (λ b. is_some (cond b (Some e.1) (object_of es l)) ≡ true → is_some (cond b (Some o) (object_of es l)) ≡ true) [
        | true ↦ λ k. refl
        | false ↦ λ k. k
      ] h
      | false ↦ elim (is_at (nat_cmp l) e.0) as (λ b. is_some (cond b (Some e.1) (object_of es l)) ≡ true → is_some (cond b (Some e.1) (object_of (set_value test es o) l)) ≡ true) [
        | true ↦ λ k. refl
        | false ↦ λ k. object_set es test l o k
      ] h
    ]

pub not_both : (o : Object) → is_file (Some o) ≡ true → is_directory_object (Some o) ≡ true → ⊥
not_both (Directory m) file directory = cc
not_both (File m contents) file directory = cc

abbrev pub with_label : ℕ → Metadata → ℕ × Metadata
with_label label m = (label, m)

-- a path is a directory if its inode number's object is one
directory_of_label : (tree : Tree) (label : ℕ) → is_some (option_map (with_label label) (option_and_then directory_metadata (object_of tree.objects label))) ≡ is_directory_object (object_of tree.objects label)
directory_of_label tree label =
    elim (option_and_then directory_metadata (object_of tree.objects label)) as (λ o. is_some (option_map (with_label label) o) ≡ is_some o) [ None ↦ refl | Some m ↦ refl ]

abbrev pub is_directory_label : List (ℕ × Object) → Option ℕ → Bool
is_directory_label objects None = false
is_directory_label objects (Some label) = is_directory_object (object_of objects label)

pub is_directory_is : (tree : Tree) (path : Path) → is_directory tree path ≡ is_directory_label tree.objects (label_at tree.names path)
is_directory_is tree path =
    elim (label_at tree.names path) as (λ o. is_some (option_and_then (λ label. option_map (with_label label) (option_and_then directory_metadata (object_of tree.objects label))) o) ≡ is_directory_label tree.objects o) [
      | None ↦ refl
      | Some label ↦ directory_of_label tree label
    ]

-- a successful lookup returns what it found
some_label : (o : Option ℕ) (P : Option ℕ → Type 0) → ((label : ℕ) → o ≡ Some label → P (Some label)) → (o ≡ None → P None) → P o
some_label None P some none = none refl
some_label (Some label) P some none = some label refl

-- ---- a new path
module _ (tree : Tree) (path : Path) (number : ℕ) (object : Object) (free : label_at tree.names path ≡ None) (unused : (q : Path) → label_at tree.names q ≢ Some number) where
  object_other : (q : Path) (label : ℕ) → label_at tree.names q ≡ Some label → object_of (insert_entry nat_cmp tree.objects number object) label ≡ object_of tree.objects label
  object_other q label e =
      object_put tree.objects number object label
      ∙ elim (nat_cmp label number) as (λ r. nat_cmp label number ≡ r → cond (is_eq r) (Some object) (object_of tree.objects label) ≡ object_of tree.objects label) [
        | Less ↦ λ _. refl
        | Equal ↦ λ same. absurd (unused q (e ∙ ap Some (nat_cmp-IsAntisymmetric label number same)))
        | Greater ↦ λ _. refl
      ] refl

  label_other : (q : Path) (label : ℕ) → label_at tree.names q ≡ Some label → label_at (insert_entry path_cmp tree.names path number) q ≡ Some label
  label_other q label e =
      lookup-insert_entry tree.names path number q
      ∙ elim (same_path q path) as (λ b. same_path q path ≡ b → cond b (Some number) (label_at tree.names q) ≡ Some label) [
        | true ↦ λ same. let is : label_at tree.names q ≡ label_at tree.names path = ap (label_at tree.names) (same_path_is q path same) in cc
        | false ↦ λ other. e
      ] refl

  new_keeps : KeepsDirectories tree (changed tree (NewPath path number object))
  new_keeps q h =
      is_directory_is (changed tree (NewPath path number object)) q
      ∙ some_label (label_at tree.names q) (λ o. label_at tree.names q ≡ o → is_directory_label tree.objects o ≡ true → is_directory_label (insert_entry nat_cmp tree.objects number object) (label_at (insert_entry path_cmp tree.names path number) q) ≡ true)
      (λ label e _ k. ap (is_directory_label (insert_entry nat_cmp tree.objects number object)) (label_other q label e) ∙ ap is_directory_object (object_other q label e) ∙ k)
      (λ e _ k. cc)
      refl (sym (is_directory_is tree q) ∙ h)

  new_founded : is_faulty_way tree path ≡ false → IsFounded tree → IsFounded (changed tree (NewPath path number object))
  new_founded open_before f = record {
    object = λ q label e. elim (same_path q path) as (λ b. same_path q path ≡ b → cond b (Some number) (label_at tree.names q) ≡ Some label → is_some (object_of (insert_entry nat_cmp tree.objects number object) label) ≡ true) [
      | true ↦ λ same k. let is : number ≡ label = cc in ap (λ (l : ℕ). is_some (object_of (insert_entry nat_cmp tree.objects number object) l)) (sym is)
          ∙ ap is_some (object_put tree.objects number object number) ∙ ap (λ r. is_some (cond (is_eq r) (Some object) (object_of tree.objects number))) (tied_itself nat_cmp_total number)
      | false ↦ λ other k. ap is_some (object_other q label k) ∙ f.object q label k
    ] refl (sym (lookup-insert_entry tree.names path number q) ∙ e);
    way = λ q label e. way_stays tree (changed tree (NewPath path number object)) new_keeps q
        (elim (same_path q path) as (λ b. same_path q path ≡ b → cond b (Some number) (label_at tree.names q) ≡ Some label → is_faulty_way tree q ≡ false) [
          | true ↦ λ same k. ap (is_faulty_way tree) (same_path_is q path same) ∙ open_before
          | false ↦ λ other k. f.way q label k
        ] refl (sym (lookup-insert_entry tree.names path number q) ∙ e));
  }

-- ---- a further link of a file
module _ (tree : Tree) (path : Path) (number : ℕ) (may : IsNewName tree path number) where
  abbrev named_anew : Tree
  named_anew = changed tree (NewName path number)

  label_stays : (q : Path) (label : ℕ) → label_at tree.names q ≡ Some label → label_at (insert_entry path_cmp tree.names path number) q ≡ Some label
  label_stays q label e =
      lookup-insert_entry tree.names path number q
      ∙ elim (same_path q path) as (λ b. same_path q path ≡ b → cond b (Some number) (label_at tree.names q) ≡ Some label) [
        | true ↦ λ same. let is : label_at tree.names q ≡ label_at tree.names path = ap (label_at tree.names) (same_path_is q path same) in let free = may.free in cc
        | false ↦ λ other. e
      ] refl

  name_keeps : KeepsDirectories tree named_anew
  name_keeps q h =
      is_directory_is named_anew q
      ∙ some_label (label_at tree.names q) (λ o. label_at tree.names q ≡ o → is_directory_label tree.objects o ≡ true → is_directory_label tree.objects (label_at (insert_entry path_cmp tree.names path number) q) ≡ true)
      (λ label e _ k. ap (is_directory_label tree.objects) (label_stays q label e) ∙ k)
      (λ e _ k. cc)
      refl (sym (is_directory_is tree q) ∙ h)

  file_there : (o : Option Object) → option_map file_type_of o ≡ Some file_type.File → is_some o ≡ true
  file_there None e = cc
  file_there (Some o) e = refl

  name_founded : IsFounded tree → IsFounded named_anew
  name_founded f = record {
    object = λ q label e. elim (same_path q path) as (λ b. cond b (Some number) (label_at tree.names q) ≡ Some label → is_some (object_of tree.objects label) ≡ true) [
      | true ↦ λ k. let is : number ≡ label = cc in file_there (object_of tree.objects label) (ap (λ (l : ℕ). option_map file_type_of (object_of tree.objects l)) (sym is) ∙ may.of_file)
      | false ↦ λ k. f.object q label k
    ] (sym (lookup-insert_entry tree.names path number q) ∙ e);
    way = λ q label e. way_stays tree named_anew name_keeps q
        (elim (same_path q path) as (λ b. same_path q path ≡ b → cond b (Some number) (label_at tree.names q) ≡ Some label → is_faulty_way tree q ≡ false) [
          | true ↦ λ same k. ap (is_faulty_way tree) (same_path_is q path same) ∙ may.way
          | false ↦ λ other k. f.way q label k
        ] refl (sym (lookup-insert_entry tree.names path number q) ∙ e));
  }

-- ---- what is kept
or_true : (a b : Bool) → b ≡ true → a || b ≡ true
or_true true b t = refl
or_true false b t = t

named_used : (names : List (Path × ℕ)) (q : Path) (label : ℕ) → label_at names q ≡ Some label → list_any (λ e. nat_eq e.1 label) names ≡ true
named_used [] q label e = cc
named_used (n ∷ names) q label e =
    elim (same_path q n.0) as (λ b. cond b (Some n.1) (label_at names q) ≡ Some label → list_any (λ e. nat_eq e.1 label) (n ∷ names) ≡ true) [
      | true ↦ λ k. let is : n.1 ≡ label = cc in rw (eq-eqb n.1 label is)
      | false ↦ λ k. or_true (nat_eq n.1 label) (list_any (λ e. nat_eq e.1 label) names) (named_used names q label k)
    ] e

tied : (label k : ℕ) → is_at (nat_cmp label) k ≡ true → label ≡ k
tied label k t = nat_cmp-IsAntisymmetric label k (is_equal (nat_cmp label k) t)

or_first : (a b : Bool) → a ≡ true → a || b ≡ true
or_first true b t = refl
or_first false b t = cc

pub kept_object : (tree : Tree) (q : Path) (label : ℕ) → label_at tree.names q ≡ Some label → object_of (kept tree).objects label ≡ object_of tree.objects label
kept_object tree q label e =
    lookup-filter-keys (is_at (nat_cmp label)) (is_used tree.names tree.handles) true
    (λ k t. ap (is_used tree.names tree.handles) (sym (tied label k t)) ∙ or_first (list_any (λ n. nat_eq n.1 label) tree.names) _ (named_used tree.names q label e))
    tree.objects

kept_keeps : (tree : Tree) → KeepsDirectories tree (kept tree)
kept_keeps tree q h =
    is_directory_is (kept tree) q
    ∙ some_label (label_at tree.names q) (λ o. is_directory_label tree.objects o ≡ true → is_directory_label (kept tree).objects o ≡ true)
    (λ label e k. ap is_directory_object (kept_object tree q label e) ∙ k)
    (λ e k. k)
    (sym (is_directory_is tree q) ∙ h)

kept_founded : (tree : Tree) → IsFounded tree → IsFounded (kept tree)
kept_founded tree f = record {
  object = λ q label e. ap is_some (kept_object tree q label e) ∙ f.object q label e;
  way = λ q label e. way_stays tree (kept tree) (kept_keeps tree) q (f.way q label e);
}

-- ---- a file's object is set
file_set : (objects : List (ℕ × Object)) (label l : ℕ) (o : Object) → is_file (object_of objects label) ≡ true → is_directory_object (object_of objects l) ≡ true → is_directory_object (object_of (set_value (is_at (nat_cmp label)) objects o) l) ≡ true
file_set [] label l o file h = h
file_set (e ∷ es) label l o file h =
    elim (is_at (nat_cmp label) e.0) as (λ b. is_file (cond b (Some e.1) (object_of es label)) ≡ true → is_directory_object (object_of (cond b ((e.0, o) ∷ es) (e ∷ set_value (is_at (nat_cmp label)) es o)) l) ≡ true) [
      | true ↦ λ here. elim (is_at (nat_cmp l) e.0) as (λ b. is_directory_object (cond b (Some e.1) (object_of es l)) ≡ true → is_directory_object (cond b (Some o) (object_of es l)) ≡ true) [
        | true ↦ λ k. absurd (not_both e.1 here k)
        | false ↦ λ k. k
      ] h
      | false ↦ λ later. elim (is_at (nat_cmp l) e.0) as (λ b. is_directory_object (cond b (Some e.1) (object_of es l)) ≡ true → is_directory_object (cond b (Some e.1) (object_of (set_value (is_at (nat_cmp label)) es o) l)) ≡ true) [
        | true ↦ λ k. k
        | false ↦ λ k. file_set es label l o later k
      ] h
    ] file

set_rightly : (tree : Tree) (label : ℕ) (object : Object) (l : ℕ) → IsSetRightly tree label object → is_directory_object (object_of tree.objects l) ≡ true → is_directory_object (object_of (set_value (is_at (nat_cmp label)) tree.objects object) l) ≡ true
set_rightly tree label (Directory m) l may h = directory_set tree.objects label l m h
set_rightly tree label (File m contents) l may h = file_set tree.objects label l (File m contents) (file_of_kind (object_of tree.objects label) may) h

object_keeps : (tree : Tree) (label : ℕ) (object : Object) → IsSetRightly tree label object → KeepsDirectories tree (changed tree (SetObject label object))
object_keeps tree label object may q h =
    is_directory_is (changed tree (SetObject label object)) q
    ∙ elim (label_at tree.names q) as (λ o. is_directory_label tree.objects o ≡ true → is_directory_label (set_value (is_at (nat_cmp label)) tree.objects object) o ≡ true) [
      | None ↦ λ k. k
      | Some l ↦ λ k. set_rightly tree label object l may k
    ] (sym (is_directory_is tree q) ∙ h)

set_founded : (tree : Tree) (label : ℕ) (object : Object) → IsSetRightly tree label object → IsFounded tree → IsFounded (changed tree (SetObject label object))
set_founded tree label object may f = record {
  object = λ q l there. object_set tree.objects (is_at (nat_cmp label)) l object (f.object q l there);
  way = λ q l there. way_stays tree (changed tree (SetObject label object)) (object_keeps tree label object may) q (f.way q l there);
}

-- ---- a removed path
front_stays : (tree : Tree) (gone q : Path) → q ≢ gone → is_directory tree q ≡ true → is_directory (record tree { names = remove_entry (is_at (path_cmp gone)) tree.names }) q ≡ true
front_stays tree gone q other h =
    is_directory_is (record tree { names = remove_entry (is_at (path_cmp gone)) tree.names }) q
    ∙ ap (is_directory_label tree.objects) (other_removed path_cmp exact_paths gone q tree.names other)
    ∙ sym (is_directory_is tree q) ∙ h

-- a proper prefix has a name after it
proper_rest : (path : Path) (n : ℕ) → n < length path → (name : Name) × (rest : Path) × (path ≡ take n path ++ name ∷ rest)
proper_rest [] n lt = absurd (omega arith)
proper_rest (name ∷ path) zero lt = (name, path, refl)
proper_rest (name ∷ path) (suc n) lt =
    let short : n < length path = omega arith in
    let more = proper_rest path n short in
    (more.0, more.1, ap (λ (p : Path). name ∷ p) more.2)

gone_founded : (tree : Tree) (gone : Path) → ((name : Name) (rest : Path) → label_at tree.names (gone ++ name ∷ rest) ≡ None) → IsOrderedTree tree → IsFounded tree
    → IsFounded (record tree { names = remove_entry (is_at (path_cmp gone)) tree.names })
gone_founded tree gone none o f = record {
  object = λ q label e. f.object q label (found_removed path_cmp exact_paths (is_at (path_cmp gone)) tree.names q label o.names e);
  way = λ q label e.
      let was = found_removed path_cmp exact_paths (is_at (path_cmp gone)) tree.names q label o.names e in
      (open_way (record tree { names = remove_entry (is_at (path_cmp gone)) tree.names }) q).1
      (λ n lt. front_stays tree gone (take n q)
      (λ same. let more = proper_rest q n lt in
      let below : label_at tree.names q ≡ None = ap (label_at tree.names) (more.2 ∙ ap (λ (p : Path). p ++ more.0 ∷ more.1) same) ∙ none more.0 more.1 in
      let found : label_at tree.names q ≡ Some label = was in cc)
      ((open_way tree q).0 (f.way q label was) n lt));
}

-- ---- a move
module _ (tree : Tree) (old new : Path) (may : IsMove tree old new) where
  abbrev renamed : Tree
  renamed = record tree { names = moved tree.names old new }

  -- a path with another's inode number is a directory if the other is one
  directory_moved : (p q : Path) → label_at (moved tree.names old new) q ≡ label_at tree.names p → is_directory tree p ≡ true → is_directory renamed q ≡ true
  directory_moved p q same h = is_directory_is renamed q ∙ ap (is_directory_label tree.objects) same ∙ sym (is_directory_is tree p) ∙ h

  outside_stays : (q : Path) → after_front old q ≡ None → after_front new q ≡ None → is_directory tree q ≡ true → is_directory renamed q ≡ true
  outside_stays q not_old not_new h = directory_moved q q (moved_outside tree.names old new q not_old not_new) h

  carried_way : (rest : Path) → is_faulty_way tree (old ++ rest) ≡ false → is_faulty_way renamed (new ++ rest) ≡ false
  carried_way rest open_before =
      (open_way renamed (new ++ rest)).1
      (fronts_append (λ q. is_directory renamed q ≡ true) new rest
      (λ n lt. outside_stays (take n new) (no_front old new n may.not_inside) (no_proper_front new n lt) ((open_way tree new).0 may.way n lt))
      (λ n lt. directory_moved (old ++ take n rest) (new ++ take n rest) (moved_to_new tree.names old new (take n rest))
      (fronts_behind (λ q. is_directory tree q ≡ true) old rest ((open_way tree (old ++ rest)).0 open_before) n lt)))

  move_founded : IsFounded tree → IsFounded renamed
  move_founded f = record {
    object = λ q label e. elim (came_from tree.names old new q label e) [
      | inl c ↦ f.object (old ++ c.0) label c.2
      | inr c ↦ f.object q label c.2
    ];
    way = λ q label e. elim (came_from tree.names old new q label e) [
      | inl c ↦ ap (is_faulty_way renamed) c.1 ∙ carried_way c.0 (f.way (old ++ c.0) label c.2)
      | inr c ↦ (open_way renamed q).1
          (λ n lt. outside_stays (take n q) (no_front old q n c.0) (no_front new q n c.1) ((open_way tree q).0 (f.way q label c.2) n lt))
    ];
  }

-- ---- all changes
pub founded_changed : (number : ℕ) (tree : Tree) (change : Change) → MayChange number tree change → IsOrderedTree tree → IsFounded tree → IsFounded (changed tree change)
founded_changed number tree (SetObject label object) may o f = set_founded tree label object may f
founded_changed number tree (NewPath path label object) may o f = new_founded tree path label object may.free may.unused may.way f
founded_changed number tree (NewName path label) may o f = name_founded tree path label may f
founded_changed number tree (GonePath gone) may o f = kept_founded _ (gone_founded tree gone may o f)
founded_changed number tree (Move old new) may o f = kept_founded _ (move_founded tree old new may f)
founded_changed number tree (OpenHandle handle opened) may o f = record { object = f.object; way = f.way }
founded_changed number tree (SetHandle handle opened) may o f = record { object = f.object; way = f.way }
founded_changed number tree (CloseHandle handle) may o f = kept_founded _ (record { object = f.object; way = f.way })

pub founded_left : (tree : Tree) (session : ℕ) → IsFounded tree → IsFounded (kept (record tree { handles = filter (λ e. not (nat_eq e.1.session session)) tree.handles }))
founded_left tree session f = kept_founded _ (record { object = f.object; way = f.way })

pub founded_empty : IsFounded empty_tree
founded_empty = record {
  object = λ path label e. let z = root_alone path label e in rw z.1;
  way = λ path label e. let z = root_alone path label e in ap (is_faulty_way empty_tree) z.0;
}
