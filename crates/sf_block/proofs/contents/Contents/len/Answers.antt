use Rattle.std.proofs.Common.{length, sym, ap, ◌∙◌}
use Rattle.sf_block.specs.Contents.{FileBytes}
use Rattle.sf_block.specs.Blocks.{block_now}
use Rattle.sf_block.proofs.Places.{length_bytes}
use Rattle.sf_block.proofs.contents.Contents.len.Goals as goal

pub returns : goal.returns
returns c =
    sym (length_bytes (block_now c.self.inside.blocks c.self.inside.pending.first c.self.inside.pending.fresh) 0 c.self.inside.len)
    ∙ ap (λ (v : FileBytes). length v.bytes) c.self.view_is
