use Rattle.std.proofs.Common.{◌≡◌}
use Rattle.sf_block.proofs.contents.Contents.copy_rest.Given as goal

abbrev pub invariant-loop-self : goal.invariant-loop-self
invariant-loop-self l = l.self.bytes ≡ l.initial.self.bytes

abbrev pub decreases-loop-self : goal.decreases-loop-self
decreases-loop-self l = l.self.left
