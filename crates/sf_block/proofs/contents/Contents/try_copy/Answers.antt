use Rattle.std.proofs.Common.{◌%◌, get_or, subst, ◌≡◌, ◌/◌, ◌∙◌, ℕ, List, length, sym, ap, arith}
use Rattle.sf_block.specs.Contents.{FileBytes}
use Rattle.sf_block.specs.Blocks.{block_in, block_now, AreRuns, FileBlocks, PendingWrite}
use Rattle.sf_block.proofs.Waiting.{now_none}
use Rattle.sf_block.proofs.Holding.{held_none}
use Rattle.sf_block.proofs.Running.{runs_same}
use Rattle.sf_block.proofs.contents.Contents.try_copy.Goals as goal

pub invariant_of-result : goal.invariant_of-result
invariant_of-result c =
    let inside = c.self.inside in
    let old : FileBlocks = inside.blocks in
    let new : FileBlocks = c.in_ok-try_copy.field-0 in
    let left : PendingWrite = c.new.result in
    let fresh : List (List ℕ) = left.fresh in
    let none : length inside.pending.fresh ≡ 0 = ap (λ (v : FileBytes). v.left) c.self.view_is ∙ c.requires in
    let empty : length fresh ≡ 0 = ap (λ (p : PendingWrite). length p.fresh) c.new.ensures in
    let nothing : length left.filled.bytes ≡ 0 = ap (λ (p : PendingWrite). length p.filled.bytes) c.new.ensures in
    let first : left.first ≡ 0 = ap (λ (p : PendingWrite). p.first) c.new.ensures in
    let same : (k : ℕ) → block_now new left.first fresh k ≡ block_now old inside.pending.first inside.pending.fresh k = λ k.
    now_none new left.first fresh empty k ∙ ap (λ (b : FileBlocks). block_in b k) c.in_ok-try_copy.ensures ∙ sym (now_none old inside.pending.first inside.pending.fresh none k) in (
      λ k. omega (arith, ap (λ (b : List ℕ). length b) (same k), c.self.invariant.0 k),
      λ i le. ap (λ (b : List ℕ). get_or b (i % 4096) 0) (same (i / 4096)) ∙ c.self.invariant.1 i le,
      λ k from to. absurd (omega (arith, from, to, empty)),
      omega (arith, empty, first),
      subst (λ (r : List (ℕ × List ℕ)). AreRuns r (block_now new left.first fresh) inside.len) (sym c.in_ok-try_copy-2.ensures)
          (runs_same inside.runs (block_now old inside.pending.first inside.pending.fresh) (block_now new left.first fresh) inside.len same c.self.invariant.4),
      held_none new left.filled.from left.filled.bytes nothing,
      λ some. absurd (omega (arith, some, nothing)),
      λ none. nothing,
    )
