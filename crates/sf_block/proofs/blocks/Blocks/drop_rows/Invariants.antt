use Rattle.std.proofs.Common.{◌≡◌, ◌<◌, ℕ, length}
use Rattle.sf_block.specs.Blocks.{row_in}
use Rattle.sf_block.proofs.blocks.Blocks.drop_rows.Given as goal

abbrev pub invariant-loop-last : goal.invariant-loop-last
invariant-loop-last l = (r : ℕ) → r < l.end → row_in l.self r ≡ row_in l.initial.self r

abbrev pub decreases-loop-last : goal.decreases-loop-last
decreases-loop-last l = length l.self.far
