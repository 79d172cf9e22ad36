use Rattle.std.proofs.Common.{◌≡◌, ◌++◌, filter_map}
use Rattle.sf_call.specs.Leaves.{leaf_of}
use Rattle.sf_plain.proofs.tree.PlainTree.leaves.Given as goal

abbrev pub invariant-names : goal.invariant-names
invariant-names l = l.leaves.items ++ filter_map (leaf_of l.self.objects) l.path-iterator ≡ filter_map (leaf_of l.self.objects) l.self.names
