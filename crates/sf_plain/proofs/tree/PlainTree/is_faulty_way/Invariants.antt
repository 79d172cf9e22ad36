use Rattle.std.proofs.Common.{◌≡◌, ◌<◌, ℕ, true, take}
use Rattle.sf_call.specs.Tree.{is_directory}
use Rattle.sf_plain.proofs.tree.PlainTree.is_faulty_way.Given as goal

abbrev pub invariant-loop-n : goal.invariant-loop-n
invariant-loop-n l = (k : ℕ) → k < l.n → is_directory l.self (take k l.path) ≡ true
