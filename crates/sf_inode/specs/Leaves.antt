-- The paths of a store, each with its object.
use Rattle.std.specs.Prelude.{◌≡◌, ℕ, List, [], ◌∷◌, ◌++◌, map, Option, Some, None}
use Rattle.sf_path.specs.Names.{Name, Path}
use Rattle.sf_call.specs.Leaves.{Leaf}
use Rattle.sf_inode.specs.declared.node.Node.{Node}
use Rattle.sf_inode.specs.Nodes.{entries_in}
use Rattle.sf_inode.specs.Stores.{node_in, shown_node}

-- the entries of the directory at a path, as paths
abbrev pub under : Path → Name × ℕ → Path × ℕ
under path e = (path ++ e.0 ∷ [], e.1)

abbrev pub below : Path → List (Name × ℕ) → List (Path × ℕ)
below path entries = map (under path) entries

-- Each path in turn that leads to an inode, in preorder: first itself, then all paths below it. A
-- slot without an inode is skipped.
pub data AreLeaves (nodes : List (Option Node)) : List (Path × ℕ) → List Leaf → Type 0 where
  NoneLeft : AreLeaves nodes [] []
  Passed : (path : Path) (id : ℕ) (others : List (Path × ℕ)) (leaves : List Leaf)
      → node_in nodes id ≡ None → AreLeaves nodes others leaves
      → AreLeaves nodes ((path, id) ∷ others) leaves
  Named : (path : Path) (id : ℕ) (others : List (Path × ℕ)) (leaves : List Leaf) (node : Node)
      → node_in nodes id ≡ Some node
      → AreLeaves nodes (below path (entries_in node.content) ++ others) leaves
      → AreLeaves nodes ((path, id) ∷ others) ((path, shown_node node) ∷ leaves)
