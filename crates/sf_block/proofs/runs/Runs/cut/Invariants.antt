use Rattle.std.proofs.Common.{◌≡◌, ℕ, List, Some, length}
use Rattle.sf_block.specs.Blocks.{run_in}
use Rattle.sf_block.proofs.runs.Runs.cut.Given as goal

abbrev pub invariant-loop-last : goal.invariant-loop-last
invariant-loop-last l = (k : ℕ) (run : List ℕ) → run_in l.self k ≡ Some run → run_in l.initial.self k ≡ Some run

abbrev pub decreases-loop-last : goal.decreases-loop-last
decreases-loop-last l = length l.self
