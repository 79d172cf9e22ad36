-- The changes that a call makes, as data, and the tree after them.
use Rattle.std.specs.Prelude.{ℕ, List, [], ◌∷◌, fold, Option, Some, None}
use Rattle.std.specs.Ordering.{nat_cmp}
use Rattle.std.specs.Map.{remove_entry, set_value}
use Rattle.std.specs.BTreeMap.{insert_entry, is_at}
use Rattle.sf_path.specs.Order.{path_cmp}
use Rattle.sf_call.specs.Attributes.{Metadata, Object, modified_at}
use Rattle.sf_call.specs.Attributes.Object.{Directory}
use Rattle.sf_path.specs.Names.{Path}
use Rattle.sf_call.specs.Tree.{Tree, Handle, directory_at, kept}
use Rattle.sf_call.specs.Moves.{moved}

-- set the object of an inode number; add a path with a new object; add a link to a file; remove a
-- path; move a path and all paths below it; open, set or close a handle
pub data Change : Type 0 where
  SetObject : (label : ℕ) → (object : Object) → Change
  NewPath : (path : Path) → (label : ℕ) → (object : Object) → Change
  NewName : (path : Path) → (label : ℕ) → Change
  GonePath : (path : Path) → Change
  Move : (old : Path) → (new : Path) → Change
  OpenHandle : (number : ℕ) → (handle : Handle) → Change
  SetHandle : (number : ℕ) → (handle : Handle) → Change
  CloseHandle : (number : ℕ) → Change

-- The tree after a change: an object left without link and open handle is deleted.
abbrev pub changed : Tree → Change → Tree
changed tree (SetObject label object) =
    record tree { objects = set_value (is_at (nat_cmp label)) tree.objects object }
changed tree (NewPath path label object) =
    record tree {
      names = insert_entry path_cmp tree.names path label;
      objects = insert_entry nat_cmp tree.objects label object;
    }
changed tree (NewName path label) =
    record tree { names = insert_entry path_cmp tree.names path label }
changed tree (GonePath path) =
    kept (record tree { names = remove_entry (is_at (path_cmp path)) tree.names })
changed tree (Move old new) = kept (record tree { names = moved tree.names old new })
changed tree (OpenHandle number handle) =
    record tree { handles = insert_entry nat_cmp tree.handles number handle }
changed tree (SetHandle number handle) =
    record tree { handles = set_value (is_at (nat_cmp number)) tree.handles handle }
changed tree (CloseHandle number) =
    kept (record tree { handles = remove_entry (is_at (nat_cmp number)) tree.handles })

-- the tree after all changes
abbrev pub done : Tree → List Change → Tree
done tree changes = fold changed tree changes

-- A change of a directory's entries sets its modification time (POSIX, mkdir and others).
abbrev pub touch : ℕ → Option (ℕ × Metadata) → List Change
touch moment None = []
touch moment (Some e) = SetObject e.0 (Directory (modified_at moment e.1)) ∷ []

abbrev pub touched : Tree → ℕ → Path → List Change
touched tree moment path = touch moment (directory_at tree path)

-- the old path of the first move among the changes
abbrev pub moved_by : List Change → Option Path
moved_by [] = None
moved_by (Move old new ∷ changes) = Some old
moved_by (SetObject label object ∷ changes) = moved_by changes
moved_by (NewPath path label object ∷ changes) = moved_by changes
moved_by (NewName path label ∷ changes) = moved_by changes
moved_by (GonePath path ∷ changes) = moved_by changes
moved_by (OpenHandle number handle ∷ changes) = moved_by changes
moved_by (SetHandle number handle ∷ changes) = moved_by changes
moved_by (CloseHandle number ∷ changes) = moved_by changes
