use Rattle.std.proofs.Common.{◌≡◌, take}
use Rattle.sf_block.proofs.queue.shares.Given as goal

abbrev pub invariant-loop-i : goal.invariant-loop-i
invariant-loop-i l = l.copy.items ≡ take l.i l.blocks.items
