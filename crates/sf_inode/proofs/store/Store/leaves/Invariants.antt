use Rattle.std.proofs.Common.{List, [], ◌∷◌, ◌++◌, ◌+◌, ◌-◌, ◌*◌, ◌^◌, length}
use Rattle.sf_call.specs.Leaves.{Leaf}
use Rattle.sf_inode.specs.Leaves.{AreLeaves}
use Rattle.sf_inode.proofs.store.Store.leaves.Given as goal

abbrev pub invariant-paths : goal.invariant-paths
invariant-paths l = (rest : List Leaf) → AreLeaves l.self.nodes l.waiting.items rest → AreLeaves l.self.nodes (([], l.self.root) ∷ []) (l.leaves.items ++ rest)

-- each iteration removes a path or adds a leaf; a vector never holds 2^64 leaves
abbrev pub decreases-paths : goal.decreases-paths
decreases-paths l = (2 ^ 64 - length l.leaves.items) * 2 ^ 64 + length l.waiting.items
