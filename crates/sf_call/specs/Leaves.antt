-- Each path of a tree, with the object that it names.
use Rattle.std.specs.Prelude.{ℕ, List, filter_map, Option, Some, None, option_map}
use Rattle.sf_path.specs.Names.{Path}
use Rattle.sf_call.specs.Attributes.{Metadata, Object}
use Rattle.sf_call.specs.Attributes.Object.{Directory, File}
use Rattle.sf_call.specs.Tree.{Tree, object_of}

-- a path with its inode number and its object
abbrev pub Leaf : Type 0
Leaf = Path × (ℕ × Object)

-- an inode number with its object, if it has one
abbrev pub named_by : List (ℕ × Object) → ℕ → Option (ℕ × Object)
named_by objects label = option_map (λ o. (label, o)) (object_of objects label)

abbrev pub leaf_of : List (ℕ × Object) → Path × ℕ → Option Leaf
leaf_of objects e = option_map (λ v. (e.0, v)) (named_by objects e.1)

-- each path of the tree once, in the order of paths, with its inode number and its object
abbrev pub leaves_of : Tree → List Leaf
leaves_of t = filter_map (leaf_of t.objects) t.names

-- the metadata and the contents of an object; a directory has no contents
abbrev pub metadata_of : Object → Metadata
metadata_of (Directory m) = m
metadata_of (File m contents) = m

abbrev pub contents_of : Object → Option (List ℕ)
contents_of (Directory m) = None
contents_of (File m contents) = Some contents

-- the object with this metadata and these contents
abbrev pub object_by : Metadata → Option (List ℕ) → Object
object_by m None = Directory m
object_by m (Some contents) = File m contents
