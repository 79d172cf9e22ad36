use Rattle.std.proofs.Common.{◌≡◌, ℕ}
use Rattle.sf_block.specs.Blocks.{block_in, HasPlace}
use Rattle.sf_block.proofs.contents.share.Given as goal

abbrev pub invariant-loop-i : goal.invariant-loop-i
invariant-loop-i l = record {
  same : (k : ℕ) → block_in l.blocks k ≡ block_in l.fn.blocks k;
  kept : (k : ℕ) → HasPlace l.fn.blocks k → HasPlace l.blocks k;
}
