-- The preconditions of changes, and the invariant of trees.
use Rattle.std.specs.Prelude.{◌≡◌, ◌≢◌, ◌<◌, ◌≤◌, ℕ, true, false, List, [], ◌∷◌, ◌++◌, Some, None, IsSome, option_map}
use Rattle.sf_path.specs.Names.{Name, Path}
use Rattle.sf_call.specs.declared.limits.TheConstants.{MAX_LINKS}
use Rattle.sf_call.specs.declared.metadata.FileType.{FileType}
use Rattle.sf_call.specs.declared.metadata.FileType.TheVariants as file_type
use Rattle.sf_call.specs.Attributes.{Object}
use Rattle.sf_call.specs.Attributes.Object.{Directory, File}
use Rattle.sf_call.specs.Tree.{Tree, Handle, IsOrderedTree, label_at, object_of, handle_of, links, is_directory, is_faulty_way, after_front, kept}
use Rattle.sf_call.specs.Changes.{Change, changed}
use Rattle.sf_call.specs.Changes.Change.{SetObject, NewPath, NewName, GonePath, Move, OpenHandle, SetHandle, CloseHandle}

abbrev pub file_type_of : Object → FileType
file_type_of (Directory m) = file_type.Directory
file_type_of (File m contents) = file_type.File

-- an object keeps its file type
abbrev pub IsSetRightly : Tree → ℕ → Object → Type 0
IsSetRightly tree label object =
    option_map file_type_of (object_of tree.objects label) ≡ Some (file_type_of object)

-- a new path is absent, each proper prefix is a directory, and its inode number is the call's
-- number, unused before
pub record IsNewPath (number : ℕ) (tree : Tree) (path : Path) (label : ℕ) : Type 0 where
  pub is_number : label ≡ number
  pub free : label_at tree.names path ≡ None
  pub way : is_faulty_way tree path ≡ false
  pub unused : (other : Path) → label_at tree.names other ≢ Some label
  pub no_object : object_of tree.objects label ≡ None

-- a new link: the path is absent, each proper prefix is a directory, and the file has fewer than
-- MAX_LINKS links
pub record IsNewName (tree : Tree) (path : Path) (label : ℕ) : Type 0 where
  pub free : label_at tree.names path ≡ None
  pub way : is_faulty_way tree path ≡ false
  pub of_file : option_map file_type_of (object_of tree.objects label) ≡ Some file_type.File
  pub fewer : links tree.names label < MAX_LINKS

-- a new handle has the call's number, unused before
pub record IsNewHandle (number : ℕ) (tree : Tree) (handle : ℕ) : Type 0 where
  pub is_number : handle ≡ number
  pub free : handle_of tree.handles handle ≡ None

-- A move: `old` exists, and neither path begins with the other. Each proper prefix of `new` is a
-- directory, and no path is below `new`. If `new` exists, it has the file type of `old` and is
-- another object (POSIX, rename).
pub record IsMove (tree : Tree) (old new : Path) : Type 0 where
  pub label : ℕ
  pub named : label_at tree.names old ≡ Some label
  pub not_inside : after_front old new ≡ None
  pub not_around : after_front new old ≡ None
  pub way : is_faulty_way tree new ≡ false
  pub bare : (name : Name) (rest : Path) → label_at tree.names (new ++ name ∷ rest) ≡ None
  pub alike : (replaced : ℕ) → label_at tree.names new ≡ Some replaced
      → option_map file_type_of (object_of tree.objects replaced)
      ≡ option_map file_type_of (object_of tree.objects label)
  pub other : label_at tree.names new ≢ Some label

-- The precondition of a change by the call with this number. A removed path has none below it, and
-- a changed handle keeps its inode number.
abbrev pub MayChange : ℕ → Tree → Change → Type 0
MayChange number tree (SetObject label object) = IsSetRightly tree label object
MayChange number tree (NewPath path label object) = IsNewPath number tree path label
MayChange number tree (NewName path label) = IsNewName tree path label
MayChange number tree (GonePath path) =
    (name : Name) (rest : Path) → label_at tree.names (path ++ name ∷ rest) ≡ None
MayChange number tree (Move old new) = IsMove tree old new
MayChange number tree (OpenHandle handle opened) = IsNewHandle number tree handle
MayChange number tree (SetHandle handle opened) = (before : Handle)
    × (handle_of tree.handles handle ≡ Some before) × (before.label ≡ opened.label)
MayChange number tree (CloseHandle handle) = Unit {0}

-- each change is allowed after those before it
abbrev pub AreAllowed : ℕ → Tree → List Change → Type 0
AreAllowed number tree [] = Unit {0}
AreAllowed number tree (change ∷ changes) =
    MayChange number tree change × AreAllowed number (changed tree change) changes

-- The invariant of trees: it holds after each legal history, and allowed changes preserve it. Each
-- path resolves over directories to an object. A directory has at most one path, and a file at most
-- MAX_LINKS. Each object has a link or an open handle.
pub record IsWellFormed (tree : Tree) : Type 0 where
  pub ordered : IsOrderedTree tree
  pub object : (path : Path) (label : ℕ) → label_at tree.names path ≡ Some label
      → IsSome (object_of tree.objects label)
  pub way : (path : Path) (label : ℕ) → label_at tree.names path ≡ Some label
      → is_faulty_way tree path ≡ false
  pub one_path : (path other : Path) (label : ℕ) → is_directory tree path ≡ true
      → label_at tree.names path ≡ Some label → label_at tree.names other ≡ Some label
      → path ≡ other
  pub few_paths : (label : ℕ) → links tree.names label ≤ MAX_LINKS
  pub used : kept tree ≡ tree
