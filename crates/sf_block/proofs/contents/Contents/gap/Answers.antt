use Rattle.std.proofs.Common.{◌≡◌, ◌∙◌, ℕ, List, length, take, drop, sym, ap, arith}
use Rattle.sf_block.specs.Contents.{FileBytes}
use Rattle.sf_block.specs.Blocks.{block_in, block_now, bytes_from}
use Rattle.sf_block.proofs.Places.{same_blocks}
use Rattle.sf_block.proofs.Waiting.{now_none}
use Rattle.sf_block.proofs.Gaps.{zeros_before, zeros_behind}
use Rattle.sf_block.proofs.contents.Contents.gap.Goals.{in-Some, in-None}
use Rattle.sf_block.proofs.contents.Contents.gap.Goals as goal

pub returns : goal.returns
returns c =
    let inside = c.self.inside in
    let n : ℕ = c.saturating_sub.result in
    let none : length inside.pending.fresh ≡ 0 = ap (λ (v : FileBytes). v.left) c.self.view_is ∙ c.requires in
    let all : bytes_from (block_in inside.blocks) 0 inside.len ≡ c.args.self.now.bytes =
    sym (same_blocks (block_now inside.blocks inside.pending.first inside.pending.fresh) (block_in inside.blocks) 0 inside.len (now_none inside.blocks inside.pending.first inside.pending.fresh none))
    ∙ ap (λ (v : FileBytes). v.bytes) c.self.view_is in
    ap (λ (x : List ℕ). take n (drop c.args.offset x)) (sym all)
    ∙ elim c.match-next_row.branch [
      | in-Some w ↦ zeros_before inside.blocks inside.len c.args.offset n w.in-Some.row w.in-Some.ensures.some (omega arith) (omega arith)
      | in-None w ↦ zeros_behind inside.blocks inside.len c.args.offset n w.in-None.ensures.none (omega arith)
    ]
