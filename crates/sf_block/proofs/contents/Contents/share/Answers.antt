use Rattle.std.proofs.Common.{◌%◌, get_or, subst, ◌≡◌, ◌/◌, ◌∙◌, ℕ, List, length, sym, ap, arith}
use Rattle.sf_block.specs.Blocks.{block_now, AreRuns, HasPlace, FileBlocks, PendingWrite}
use Rattle.sf_block.proofs.Holding.{held_none}
use Rattle.sf_block.proofs.Running.{runs_same}
use Rattle.sf_block.proofs.contents.Contents.share.Goals as goal

pub invariant_of-result : goal.invariant_of-result
invariant_of-result c =
    let inside = c.self.inside in
    let old : FileBlocks = inside.blocks in
    let new : FileBlocks = c.in_ok-try_copy.field-0 in
    let left : PendingWrite = c.in_ok-share.field-0 in
    let fresh : List (List ℕ) = left.fresh in
    let first : left.first ≡ inside.pending.first = ap (λ (p : PendingWrite). p.first) c.in_ok-share.ensures in
    let is : fresh ≡ inside.pending.fresh = ap (λ (p : PendingWrite). p.fresh) c.in_ok-share.ensures in
    let count : length fresh ≡ length inside.pending.fresh = ap (λ (x : List (List ℕ)). length x) is in
    let nothing : length left.filled.bytes ≡ 0 = ap (λ (p : PendingWrite). length p.filled.bytes) c.in_ok-share.ensures in
    let same : (k : ℕ) → block_now new left.first fresh k ≡ block_now old inside.pending.first inside.pending.fresh k = λ k.
    ap (λ n. block_now new n fresh k) first
    ∙ ap (λ (b : FileBlocks). block_now b inside.pending.first fresh k) c.in_ok-try_copy.ensures
    ∙ ap (λ (f : List (List ℕ)). block_now old inside.pending.first f k) is in (
      λ k. omega (arith, ap (λ (b : List ℕ). length b) (same k), c.self.invariant.0 k),
      λ i le. ap (λ (b : List ℕ). get_or b (i % 4096) 0) (same (i / 4096)) ∙ c.self.invariant.1 i le,
      λ k from to. subst (λ (b : FileBlocks). HasPlace b k) (sym c.in_ok-try_copy.ensures) (c.self.invariant.2 k (omega (arith, from, first)) (omega (arith, to, count, first))),
      omega (arith, count, first, c.self.invariant.3),
      subst (λ (r : List (ℕ × List ℕ)). AreRuns r (block_now new left.first fresh) inside.len) (sym c.in_ok-try_copy-2.ensures)
          (runs_same inside.runs (block_now old inside.pending.first inside.pending.fresh) (block_now new left.first fresh) inside.len same c.self.invariant.4),
      held_none new left.filled.from left.filled.bytes nothing,
      λ some. absurd (omega (arith, some, nothing)),
      λ none. nothing,
    )
