use Rattle.std.proofs.Common.{◌≡◌, ◌++◌}
use Rattle.sf_inode.specs.Leaves.{below}
use Rattle.sf_inode.proofs.entries.Entries.below.Given as goal

abbrev pub invariant-loop-name : goal.invariant-loop-name
invariant-loop-name l = l.children.items ++ below l.path l.name-iterator ≡ below l.path l.self
