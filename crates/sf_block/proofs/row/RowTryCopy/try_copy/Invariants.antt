use Rattle.std.proofs.Common.{◌≡◌, take}
use Rattle.sf_block.proofs.row.RowTryCopy.try_copy.Given as goal

abbrev pub invariant-loop-block : goal.invariant-loop-block
invariant-loop-block l = l.list.items ≡ take l.block-index l.block-items
