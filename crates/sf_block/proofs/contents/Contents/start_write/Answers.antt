use Rattle.std.proofs.Common.{rules, ◌%◌, get_or, subst, ◌≡◌, ◌+◌, ◌/◌, ◌-◌, ◌<◌, ◌≤◌, ◌∙◌, ℕ, max, List, [], length, sym, ap, arith}
use Rattle.sf_block.specs.Contents.{FileBytes, written, blocks_of}
use Rattle.sf_block.specs.Blocks.{block_in, block_now, block_written, byte_in, bytes_from, AreRuns, FileBlocks, PendingWrite}
use Rattle.sf_block.proofs.Places.{same_blocks, same_file}
use Rattle.sf_block.proofs.Waiting.{now_none, now_same}
use Rattle.sf_block.proofs.Laying.{last_block, now_small, now_kept, now_laid, lays, lays_ends}
use Rattle.sf_block.proofs.Holding.{held_none}
use Rattle.sf_block.proofs.Running.{runs_same, runs_fewer, runs_noted}
use Rattle.sf_block.proofs.contents.Contents.start_write.Goals as goal

pub invariant_of-self-2 : goal.invariant_of-self-2
invariant_of-self-2 c =
    let inside = c.self.inside in
    let bytes : List ℕ = c.args.bytes.now in
    let start : ℕ = c.args.offset in
    let old : FileBlocks = inside.blocks in
    let new : FileBlocks = c.make_places.new.blocks in
    let left : PendingWrite = c.in_ok-pending.pending in
    let fresh : List (List ℕ) = left.fresh in
    let is : fresh ≡ c.in_ok-fresh.fresh = ap (λ (p : PendingWrite). p.fresh) c.in_ok-pending.ensures in
    let first : left.first ≡ start / 4096 = ap (λ (p : PendingWrite). p.first) c.in_ok-pending.ensures in
    let count : length fresh ≡ blocks_of start bytes = ap (λ (x : List (List ℕ)). length x) is ∙ c.in_ok-fresh.ensures.count in
    let laid : (j : ℕ) → j < length fresh → get_or fresh j [] ≡ block_written (block_in old) start bytes (start / 4096 + j) =
    λ j lt. ap (λ (x : List (List ℕ)). get_or x j []) is ∙ c.in_ok-fresh.ensures.blocks j (omega (arith, lt, ap (λ (x : List (List ℕ)). length x) is)) in
    let none : length inside.pending.fresh ≡ 0 = ap (λ (v : FileBytes). v.left) c.self.view_is ∙ c.requires.whole in
    let was = now_none inside.blocks inside.pending.first inside.pending.fresh none in
    let small : (k : ℕ) → length (block_in old k) ≤ 4096 = λ k. omega (arith, ap (λ (b : List ℕ). length b) (was k), c.self.invariant.0 k) in
    let ends : (i : ℕ) → inside.len ≤ i → byte_in (block_in old) i ≡ 0 = λ i le. ap (λ (f : ℕ → List ℕ). byte_in f i) (λ j k. sym (was k) j) ∙ c.self.invariant.1 i le in
    let most : c.max-self-inside.result ≡ max inside.len (start + length bytes) = omega (arith, c.max-self-inside.ensures, c.len-2.ensures) in
    let reach : length fresh ≡ (start + length bytes - 1) / 4096 + 1 - start / 4096 = count ∙ last_block start bytes c.requires.some in
    let nothing : length left.filled.bytes ≡ 0 = ap (λ (p : PendingWrite). length p.filled.bytes) c.in_ok-pending.ensures ∙ ap (λ (x : List ℕ). length x) c.in_ok-filling.ensures in (
      subst (λ n. (k : ℕ) → length (block_now new n fresh k) ≤ 4096) (sym first) (now_small new old start bytes fresh c.requires.some c.in_ok-make_places.ensures.same count laid small),
      subst (λ n. (i : ℕ) → c.max-self-inside.result ≤ i → byte_in (block_now new n fresh) i ≡ 0) (sym first)
          (λ i le. lays_ends new old start bytes fresh c.requires.some c.in_ok-make_places.ensures.same count laid inside.len ends i (omega (arith, most, le))),
      λ k from to. c.in_ok-make_places.ensures.there k (omega (arith, from, first)) (omega (arith, to, count, first)),
      omega (arith, reach, first, c.requires.fits),
      subst (λ n. AreRuns c.make_places.new.runs (block_now new n fresh) c.max-self-inside.result) (sym first)
          (subst (λ n. AreRuns c.make_places.new.runs (block_now new (start / 4096) fresh) n) (sym most)
          (runs_noted inside.runs c.make_places.new.runs inside.len
          (runs_same inside.runs (block_now old inside.pending.first inside.pending.fresh) (block_in old) inside.len (λ k. sym (was k)) c.self.invariant.4) (record {
            some = c.requires.some;
            kept = now_kept new old start bytes fresh c.requires.some c.in_ok-make_places.ensures.same count laid;
            laid = now_laid new old start bytes fresh c.requires.some c.in_ok-make_places.ensures.same count laid;
          })
          c.in_ok-make_places.ensures.noted)),
      held_none new left.filled.from left.filled.bytes nothing,
      λ some. absurd (omega (arith, some, nothing)),
      λ none. nothing,
    )

pub returns-clause-ok : goal.returns-clause-ok
returns-clause-ok c =
    let inside = c.self.inside in
    let bytes : List ℕ = c.args.bytes.now in
    let start : ℕ = c.args.offset in
    let old : FileBlocks = inside.blocks in
    let new : FileBlocks = c.make_places.new.blocks in
    let left : PendingWrite = c.in_ok-pending.pending in
    let fresh : List (List ℕ) = left.fresh in
    let is : fresh ≡ c.in_ok-fresh.fresh = ap (λ (p : PendingWrite). p.fresh) c.in_ok-pending.ensures in
    let first : left.first ≡ start / 4096 = ap (λ (p : PendingWrite). p.first) c.in_ok-pending.ensures in
    let count : length fresh ≡ blocks_of start bytes = ap (λ (x : List (List ℕ)). length x) is ∙ c.in_ok-fresh.ensures.count in
    let laid : (j : ℕ) → j < length fresh → get_or fresh j [] ≡ block_written (block_in old) start bytes (start / 4096 + j) =
    λ j lt. ap (λ (x : List (List ℕ)). get_or x j []) is ∙ c.in_ok-fresh.ensures.blocks j (omega (arith, lt, ap (λ (x : List (List ℕ)). length x) is)) in
    let none : length inside.pending.fresh ≡ 0 = ap (λ (v : FileBytes). v.left) c.self.view_is ∙ c.requires.whole in
    let was = now_none inside.blocks inside.pending.first inside.pending.fresh none in
    let ends : (i : ℕ) → inside.len ≤ i → byte_in (block_in old) i ≡ 0 = λ i le. ap (λ (f : ℕ → List ℕ). byte_in f i) (λ j k. sym (was k) j) ∙ c.self.invariant.1 i le in
    let all : bytes_from (block_in old) 0 inside.len ≡ c.args.self.now.bytes =
    sym (same_blocks (block_now old inside.pending.first inside.pending.fresh) (block_in old) 0 inside.len was) ∙ ap (λ (v : FileBytes). v.bytes) c.self.view_is in
    let most : c.max-self-inside.result ≡ max inside.len (start + length bytes) = omega (arith, c.max-self-inside.ensures, c.len-2.ensures) in
    same_file (bytes_from (block_now new left.first fresh) 0 c.max-self-inside.result) (written c.args.self.now.bytes start bytes) (length fresh) (blocks_of start bytes)
    (ap (λ n. bytes_from (block_now new n fresh) 0 c.max-self-inside.result) first
    ∙ ap (bytes_from (block_now new (start / 4096) fresh) 0) most
    ∙ lays new old start bytes fresh c.requires.some c.in_ok-make_places.ensures.same count laid inside.len ends
    ∙ ap (λ (x : List ℕ). written x start bytes) all)
    count

-- after an allocation failure some places may have been made
pub invariant_of-self : goal.invariant_of-self
invariant_of-self c =
    let inside = c.self.inside in
    let old : FileBlocks = inside.blocks in
    let new : FileBlocks = c.make_places.new.blocks in
    let none : length inside.pending.fresh ≡ 0 = ap (λ (v : FileBytes). v.left) c.self.view_is ∙ c.requires.whole in
    let same : (k : ℕ) → block_now new inside.pending.first inside.pending.fresh k ≡ block_now old inside.pending.first inside.pending.fresh k = λ k.
    now_none new inside.pending.first inside.pending.fresh none k ∙ c.make_places.ensures.same k ∙ sym (now_none old inside.pending.first inside.pending.fresh none k) in (
      λ k. omega (arith, ap (λ (b : List ℕ). length b) (same k), c.self.invariant.0 k),
      λ i le. ap (λ (b : List ℕ). get_or b (i % 4096) 0) (same (i / 4096)) ∙ c.self.invariant.1 i le,
      λ k from to. absurd (omega (arith, from, to, none)),
      c.self.invariant.3,
      runs_fewer inside.runs c.make_places.new.runs (block_now new inside.pending.first inside.pending.fresh) inside.len c.in_err-make_places.ensures.fewer
          (runs_same inside.runs (block_now old inside.pending.first inside.pending.fresh) (block_now new inside.pending.first inside.pending.fresh) inside.len same c.self.invariant.4),
      held_none new inside.pending.filled.from inside.pending.filled.bytes (c.self.invariant.7 none),
      c.self.invariant.6,
      c.self.invariant.7,
    )

pub returns-in_err-make_places-clause-err : goal.returns-in_err-make_places-clause-err
returns-in_err-make_places-clause-err c =
    let inside = c.self.inside in
    let old : ℕ → List ℕ = block_now inside.blocks inside.pending.first inside.pending.fresh in
    let new : ℕ → List ℕ = block_now c.make_places.new.blocks inside.pending.first inside.pending.fresh in
    let same : (k : ℕ) → new k ≡ old k = now_same inside.blocks c.make_places.new.blocks inside.pending.first inside.pending.fresh c.make_places.ensures.same in
    let whole_is = same_file (bytes_from new 0 inside.len) c.args.self.now.bytes (length inside.pending.fresh) c.args.self.now.left
    (same_blocks new old 0 inside.len same ∙ ap (λ (v : FileBytes). v.bytes) c.self.view_is)
    (ap (λ (v : FileBytes). v.left) c.self.view_is) in
    search (rules, whole_is)
