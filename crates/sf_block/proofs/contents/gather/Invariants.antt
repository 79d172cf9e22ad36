use Rattle.std.proofs.Common.{◌≡◌, ◌-◌, ◌≤◌, length}
use Rattle.sf_block.specs.Blocks.{block_in, bytes_from}
use Rattle.sf_block.proofs.contents.gather.Given as goal

abbrev pub invariant-loop-copy : goal.invariant-loop-copy
invariant-loop-copy l = record {
  bytes : l.copy.items ≡ bytes_from (block_in l.blocks) l.start (length l.copy.items);
  most : length l.copy.items ≤ l.n;
}

abbrev pub decreases-loop-copy : goal.decreases-loop-copy
decreases-loop-copy l = l.n - length l.copy.items
