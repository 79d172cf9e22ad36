use Rattle.std.proofs.Common.{◌≡◌, ℕ, List, Some}
use Rattle.sf_block.specs.Blocks.{run_in}
use Rattle.sf_block.proofs.runs.Runs.make_places.Given as goal

abbrev pub invariant-loop-number : goal.invariant-loop-number
invariant-loop-number l = (k : ℕ) (run : List ℕ) → run_in l.self k ≡ Some run → run_in l.fn.self k ≡ Some run
