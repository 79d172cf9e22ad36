use Rattle.std.proofs.Common.{◌%◌, ◌/◌, get_or, ◌≡◌, ◌+◌, ◌-◌, ◌∙◌, ℕ, List, length, ap, arith}
use Rattle.std.proofs.lemmas.Grind.{common_steps}
use Rattle.sf_block.specs.Contents.{FileBytes}
use Rattle.sf_block.specs.Blocks.{FileBlocks, PendingWrite, block_now, bytes_from}
use Rattle.sf_block.proofs.Places.{same_blocks, same_file}
use Rattle.sf_block.proofs.Waiting.{now_before}
use Rattle.sf_block.proofs.Holding.{held_none}
use Rattle.sf_block.proofs.Running.{runs_same, runs_held}
use Rattle.sf_block.proofs.Placing.{Places, one_less, placed_now, placed_held, placed_ends, placed_end, settled_now}
use Rattle.sf_block.proofs.contents.Contents.copy_block.Goals as goal

pub settle-requires-clause-held : goal.settle-requires-clause-held
settle-requires-clause-held c =
    let inside = c.self.inside in
    placed_held inside.blocks c.put.new.self inside.pending c.next.new.self c.in-Some.field-0.number c.in-Some.field-0.block c.in-Some.field-0.copied (record {
      takes = c.in-Some.ensures.some;
      puts = c.put.ensures;
      there = c.self.invariant.2;
      held = c.self.invariant.5;
      ends = c.self.invariant.6;
    })

pub settle-requires-clause-fits : goal.settle-requires-clause-fits
settle-requires-clause-fits c =
    let inside = c.self.inside in
    let step : Places inside.blocks c.put.new.self inside.pending c.next.new.self c.in-Some.field-0.number c.in-Some.field-0.block c.in-Some.field-0.copied = record {
      takes = c.in-Some.ensures.some;
      puts = c.put.ensures;
      there = c.self.invariant.2;
      held = c.self.invariant.5;
      ends = c.self.invariant.6;
    } in
    omega (
      arith,
      c.self.invariant.3,
      c.in-Some.ensures.some.next,
      one_less inside.blocks c.put.new.self inside.pending c.next.new.self c.in-Some.field-0.number c.in-Some.field-0.block c.in-Some.field-0.copied step,
      placed_end inside.blocks c.put.new.self inside.pending c.next.new.self c.in-Some.field-0.number c.in-Some.field-0.block c.in-Some.field-0.copied step,
    )

pub invariant_of-self : goal.invariant_of-self
invariant_of-self c =
    let inside = c.self.inside in
    let number : ℕ = c.in-Some.field-0.number in
    let block : List ℕ = c.in-Some.field-0.block in
    let old : FileBlocks = inside.blocks in
    let new : FileBlocks = c.put.new.self in
    let was : PendingWrite = inside.pending in
    let now : PendingWrite = c.next.new.self in
    let step : Places old new was now number block c.in-Some.field-0.copied = record {
      takes = c.in-Some.ensures.some;
      puts = c.put.ensures;
      there = c.self.invariant.2;
      held = c.self.invariant.5;
      ends = c.self.invariant.6;
    } in
    let same : (k : ℕ) → block_now new now.first now.fresh k ≡ block_now old was.first was.fresh k = placed_now old new was now number block c.in-Some.field-0.copied step in
    let count : length was.fresh ≡ length now.fresh + 1 = one_less old new was now number block c.in-Some.field-0.copied step in (
      λ k. omega (arith, ap (λ (b : List ℕ). length b) (same k), c.self.invariant.0 k),
      λ i le. ap (λ (b : List ℕ). get_or b (i % 4096) 0) (same (i / 4096)) ∙ c.self.invariant.1 i le,
      λ k from to. c.put.ensures.kept k (c.self.invariant.2 k (omega (arith, from, c.in-Some.ensures.some.next)) (omega (arith, to, count, c.in-Some.ensures.some.next))),
      omega (arith, c.self.invariant.3, count, c.in-Some.ensures.some.next),
      runs_same inside.runs (block_now old was.first was.fresh) (block_now new now.first now.fresh) inside.len same c.self.invariant.4,
      placed_held old new was now number block c.in-Some.field-0.copied step,
      placed_ends old new was now number block c.in-Some.field-0.copied step c.if-not-copied.false,
      λ empty. absurd (grind (arith, common_steps, empty, c.if-left-eq0.false, c.left.ensures)),
    )

pub invariant_of-self-then-not-copied : goal.invariant_of-self-then-not-copied
invariant_of-self-then-not-copied c =
    let inside = c.self.inside in
    let number : ℕ = c.in-Some.field-0.number in
    let block : List ℕ = c.in-Some.field-0.block in
    let old : FileBlocks = inside.blocks in
    let new : FileBlocks = c.settle.new.blocks in
    let was : PendingWrite = inside.pending in
    let now : PendingWrite = c.next.new.self in
    let left : PendingWrite = c.settle.new.pending in
    let step : Places old c.put.new.self was now number block c.in-Some.field-0.copied = record {
      takes = c.in-Some.ensures.some;
      puts = c.put.ensures;
      there = c.self.invariant.2;
      held = c.self.invariant.5;
      ends = c.self.invariant.6;
    } in
    let same : (k : ℕ) → block_now new left.first left.fresh k ≡ block_now old was.first was.fresh k =
    settled_now old c.put.new.self was now number block c.in-Some.field-0.copied step new left c.settle.ensures.same c.settle.ensures.first c.settle.ensures.fresh in
    let still : length left.fresh ≡ length now.fresh = ap (λ (x : List (List ℕ)). length x) c.settle.ensures.fresh in
    let count : length was.fresh ≡ length left.fresh + 1 = omega (arith, still, one_less old c.put.new.self was now number block c.in-Some.field-0.copied step) in
    let first : left.first ≡ was.first + 1 = c.settle.ensures.first ∙ c.in-Some.ensures.some.next in
    let end = placed_end old c.put.new.self was now number block c.in-Some.field-0.copied step in
    let none : length left.filled.bytes ≡ 0 = ap (λ (x : List ℕ). length x) c.settle.ensures.empty in (
      λ k. omega (arith, ap (λ (b : List ℕ). length b) (same k), c.self.invariant.0 k),
      λ i le. ap (λ (b : List ℕ). get_or b (i % 4096) 0) (same (i / 4096)) ∙ c.self.invariant.1 i le,
      λ k from to. c.settle.ensures.kept k (c.put.ensures.kept k (c.self.invariant.2 k (omega (arith, from, first)) (omega (arith, to, count, first)))),
      omega (arith, c.self.invariant.3, count, first),
      runs_held inside.runs c.settle.new.runs inside.len (runs_same inside.runs (block_now old was.first was.fresh) (block_now new left.first left.fresh) inside.len same c.self.invariant.4) (record {
        held = placed_held old c.put.new.self was now number block c.in-Some.field-0.copied step;
        same = λ j few. now_before new left.first left.fresh (now.filled.from + j) (omega (arith, few, end, c.settle.ensures.first)) ∙ c.settle.ensures.same (now.filled.from + j);
      }) c.settle.ensures.runs,
      held_none new left.filled.from left.filled.bytes none,
      λ some. absurd (omega (arith, some, none)),
      λ empty. none,
    )

pub returns-then-not-copied : goal.returns-then-not-copied
returns-then-not-copied c =
    let inside = c.self.inside in
    let number : ℕ = c.in-Some.field-0.number in
    let block : List ℕ = c.in-Some.field-0.block in
    let old : FileBlocks = inside.blocks in
    let new : FileBlocks = c.settle.new.blocks in
    let was : PendingWrite = inside.pending in
    let now : PendingWrite = c.next.new.self in
    let left : PendingWrite = c.settle.new.pending in
    let step : Places old c.put.new.self was now number block c.in-Some.field-0.copied = record {
      takes = c.in-Some.ensures.some;
      puts = c.put.ensures;
      there = c.self.invariant.2;
      held = c.self.invariant.5;
      ends = c.self.invariant.6;
    } in
    let same : (k : ℕ) → block_now new left.first left.fresh k ≡ block_now old was.first was.fresh k =
    settled_now old c.put.new.self was now number block c.in-Some.field-0.copied step new left c.settle.ensures.same c.settle.ensures.first c.settle.ensures.fresh in
    let still : length left.fresh ≡ length now.fresh = ap (λ (x : List (List ℕ)). length x) c.settle.ensures.fresh in
    same_file (bytes_from (block_now new left.first left.fresh) 0 inside.len) c.args.self.now.bytes (length left.fresh) (c.args.self.now.left - 1)
    (same_blocks (block_now new left.first left.fresh) (block_now old was.first was.fresh) 0 inside.len same ∙ ap (λ (v : FileBytes). v.bytes) c.self.view_is)
    (omega (arith, still, one_less old c.put.new.self was now number block c.in-Some.field-0.copied step, ap (λ (v : FileBytes). v.left) c.self.view_is))

pub returns-else-left-eq0 : goal.returns-else-left-eq0
returns-else-left-eq0 c =
    let inside = c.self.inside in
    let number : ℕ = c.in-Some.field-0.number in
    let block : List ℕ = c.in-Some.field-0.block in
    let old : FileBlocks = inside.blocks in
    let new : FileBlocks = c.put.new.self in
    let was : PendingWrite = inside.pending in
    let now : PendingWrite = c.next.new.self in
    let step : Places old new was now number block c.in-Some.field-0.copied = record {
      takes = c.in-Some.ensures.some;
      puts = c.put.ensures;
      there = c.self.invariant.2;
      held = c.self.invariant.5;
      ends = c.self.invariant.6;
    } in
    same_file (bytes_from (block_now new now.first now.fresh) 0 inside.len) c.args.self.now.bytes (length now.fresh) (c.args.self.now.left - 1)
    (same_blocks (block_now new now.first now.fresh) (block_now old was.first was.fresh) 0 inside.len (placed_now old new was now number block c.in-Some.field-0.copied step)
    ∙ ap (λ (v : FileBytes). v.bytes) c.self.view_is)
    (omega (arith, one_less old new was now number block c.in-Some.field-0.copied step, ap (λ (v : FileBytes). v.left) c.self.view_is))
