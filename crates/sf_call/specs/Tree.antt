-- The model of the file system: paths, inodes and open handles. A path is a list of names, and the
-- root is the empty list. Each map is a list of entries in key order, so trees that map alike are
-- equal.
use Rattle.std.specs.Prelude.{◌≡◌, ℕ, Bool, true, false, not, ◌||◌, if◌then◌else◌, T, List, [], ◌∷◌, map, filter, filter_map, count_by, Option, Some, None, option_map, option_and_then, is_some, nat_eq}
use Rattle.std.specs.List.{list_any}
use Rattle.std.specs.Ordering.{nat_cmp}
use Rattle.std.specs.Map.{lookup}
use Rattle.std.specs.BTreeMap.{is_at}
use Rattle.std.specs.FinMap.{is_sorted}
use Rattle.sf_path.specs.Names.{Name, Path}
use Rattle.sf_path.specs.Order.{same_name, path_cmp}
pub use Rattle.sf_call.specs.declared.handle.Handle.{Handle}
pub use Rattle.sf_call.specs.declared.lookup.Lookup.{Lookup}
use Rattle.sf_call.specs.declared.lookup.Lookup.TheVariants.{NoWay, Absent, At}
use Rattle.sf_call.specs.Attributes.{Metadata, Object, made_at}
use Rattle.sf_call.specs.Attributes.Object.{Directory, File}

-- `names` maps paths to inode numbers (labels), `objects` maps inode numbers to directories and
-- files, and `handles` maps handle numbers to open handles
pub record Tree : Type 0 where
  pub names : List (Path × ℕ)
  pub objects : List (ℕ × Object)
  pub handles : List (ℕ × Handle)

-- the root alone: inode 0, permissions 0o755, user 0, group 0, and both times 0
abbrev pub empty_tree : Tree
empty_tree = record {
  names = ([], 0) ∷ [];
  objects = (0, Directory (made_at 0o755 0)) ∷ [];
  handles = [];
}

-- lookups in the three maps
abbrev pub label_at : List (Path × ℕ) → Path → Option ℕ
label_at names path = lookup (is_at (path_cmp path)) names

abbrev pub object_of : List (ℕ × Object) → ℕ → Option Object
object_of objects label = lookup (is_at (nat_cmp label)) objects

abbrev pub handle_of : List (ℕ × Handle) → ℕ → Option Handle
handle_of handles number = lookup (is_at (nat_cmp number)) handles

-- the metadata of an object, if it is a directory
abbrev pub directory_metadata : Object → Option Metadata
directory_metadata (Directory m) = Some m
directory_metadata (File m contents) = None

-- whether an object exists and is a directory
abbrev pub is_directory_object : Option Object → Bool
is_directory_object o = is_some (option_and_then directory_metadata o)

-- the number of links of an inode: a file may have several, a directory has one
abbrev pub links : List (Path × ℕ) → ℕ → ℕ
links names label = count_by (λ e. nat_eq e.1 label) names

-- the inode number and the metadata of the directory at a path
abbrev pub directory_at : Tree → Path → Option (ℕ × Metadata)
directory_at tree path =
    option_and_then (λ label. option_map (λ m. (label, m)) (option_and_then directory_metadata
    (object_of tree.objects label))) (label_at tree.names path)

abbrev pub is_directory : Tree → Path → Bool
is_directory tree path = is_some (directory_at tree path)

-- the proper prefixes of a path, from the root on
abbrev pub proper_fronts : Path → List Path
proper_fronts [] = []
proper_fronts (name ∷ path) = [] ∷ map (λ front. name ∷ front) (proper_fronts path)

-- whether some proper prefix of the path is absent or names a file (POSIX, pathname resolution:
-- ENOENT, ENOTDIR)
abbrev pub is_faulty_way : Tree → Path → Bool
is_faulty_way tree path = list_any (λ front. not (is_directory tree front)) (proper_fronts path)

-- The result of a lookup: a proper prefix is no directory (`NoWay`), the path is absent, or its
-- inode number.
abbrev pub lookup_of : Option ℕ → Lookup
lookup_of None = Absent
lookup_of (Some label) = At label

abbrev pub look_up : Tree → Path → Lookup
look_up tree path = if is_faulty_way tree path then NoWay else lookup_of (label_at tree.names path)

-- the inode number and the object that a lookup finds; an inode number without an object counts as
-- absent
abbrev pub found_place : List (ℕ × Object) → Lookup → Option (ℕ × Object)
found_place objects NoWay = None
found_place objects Absent = None
found_place objects (At label) = option_map (λ object. (label, object)) (object_of objects label)

abbrev pub found_at : Tree → Path → Option (ℕ × Object)
found_at tree path = found_place tree.objects (look_up tree path)

-- the suffix of a path after a prefix, if the path begins with that prefix
abbrev pub after_front : Path → Path → Option Path
after_front [] path = Some path
after_front (n ∷ front) [] = None
after_front (n ∷ front) (m ∷ path) = if same_name n m then after_front front path else None

-- the names of the entries of a directory, in byte order
abbrev pub only_name : Option Path → Option Name
only_name None = None
only_name (Some []) = None
only_name (Some (n ∷ [])) = Some n
only_name (Some (n ∷ m ∷ path)) = None

abbrev pub children : List (Path × ℕ) → Path → List Name
children names path = filter_map (λ e. only_name (after_front path e.0)) names

-- whether a list is empty
abbrev pub is_nil : {A : Type 0} → List A → Bool
is_nil [] = true
is_nil (x ∷ xs) = false

abbrev pub is_empty : List (Path × ℕ) → Path → Bool
is_empty names path = is_nil (children names path)

-- whether an inode has a link or an open handle
abbrev pub is_used : List (Path × ℕ) → List (ℕ × Handle) → ℕ → Bool
is_used names handles label =
    list_any (λ e. nat_eq e.1 label) names || list_any (λ e. nat_eq e.1.label label) handles

-- without the objects that have no link and no open handle (POSIX, unlink)
abbrev pub kept : Tree → Tree
kept tree =
    record tree { objects = filter (λ e. is_used tree.names tree.handles e.0) tree.objects }

-- each map is in key order
pub record IsOrderedTree (tree : Tree) : Type 0 where
  pub names : T (is_sorted path_cmp tree.names)
  pub objects : T (is_sorted nat_cmp tree.objects)
  pub handles : T (is_sorted nat_cmp tree.handles)

-- each lookup has the same result in both trees
pub record MapsAlike (s t : Tree) : Type 0 where
  pub names : (path : Path) → label_at s.names path ≡ label_at t.names path
  pub objects : (label : ℕ) → object_of s.objects label ≡ object_of t.objects label
  pub handles : (number : ℕ) → handle_of s.handles number ≡ handle_of t.handles number
