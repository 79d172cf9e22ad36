use Rattle.std.proofs.Common.{arith, ◌≤◌, ◌≡◌, ◌∙◌, ℕ, List, length, get_or, ◌/◌, ◌%◌, sym, ap, refl}
use Rattle.sf_block.specs.Contents.{FileBytes, resized}
use Rattle.sf_block.specs.Blocks.{block_in, block_now, byte_in, bytes_from, FileBlocks}
use Rattle.sf_block.proofs.Places.{sized, if_below, if_above, same_file}
use Rattle.sf_block.proofs.Waiting.{now_none}
use Rattle.sf_block.proofs.Holding.{held_none}
use Rattle.sf_block.proofs.Running.{runs_longer, runs_cut}
use Rattle.sf_block.proofs.contents.Contents.set_len.Goals as goal

pub returns-then-n-self : goal.returns-then-n-self
returns-then-n-self c =
    let inside = c.self.inside in
    let block : ℕ → List ℕ = block_now inside.blocks inside.pending.first inside.pending.fresh in
    let none : length inside.pending.fresh ≡ 0 = ap (λ (v : FileBytes). v.left) c.self.view_is ∙ c.requires in
    same_file (bytes_from block 0 c.args.n) (resized c.args.self.now.bytes c.args.n) (length inside.pending.fresh) 0
    (sized block block inside.len c.args.n (λ i lt. refl) c.self.invariant.1 ∙ ap (λ (v : FileBytes). resized v.bytes c.args.n) c.self.view_is)
    none

pub returns : goal.returns
returns c =
    let inside = c.self.inside in
    let fresh : List (List ℕ) = inside.pending.fresh in
    let block : ℕ → List ℕ = block_now inside.blocks inside.pending.first fresh in
    let cut : FileBlocks = c.cut.new.self in
    let now : ℕ → List ℕ = block_now cut inside.pending.first fresh in
    let none : length fresh ≡ 0 = ap (λ (v : FileBytes). v.left) c.self.view_is ∙ c.requires in
    let here : (i : ℕ) → byte_in now i ≡ byte_in (block_in cut) i = λ i. ap (λ (b : List ℕ). get_or b (i % 4096) 0) (now_none cut inside.pending.first fresh none (i / 4096)) in
    let was : (i : ℕ) → byte_in block i ≡ byte_in (block_in inside.blocks) i = λ i. ap (λ (b : List ℕ). get_or b (i % 4096) 0) (now_none inside.blocks inside.pending.first fresh none (i / 4096)) in
    same_file (bytes_from now 0 c.args.n) (resized c.args.self.now.bytes c.args.n) (length fresh) 0
    (sized block now inside.len c.args.n (λ i lt. here i ∙ c.cut.ensures.bytes i ∙ if_below i c.args.n (byte_in (block_in inside.blocks) i) 0 lt ∙ sym (was i)) c.self.invariant.1
    ∙ ap (λ (v : FileBytes). resized v.bytes c.args.n) c.self.view_is)
    none

pub invariant_of-self : goal.invariant_of-self
invariant_of-self c =
    let inside = c.self.inside in
    let longer : inside.len ≤ c.args.n = omega (arith, c.if-n-self.true) in (
      c.self.invariant.0,
      λ i le. c.self.invariant.1 i (omega (arith, le, longer)),
      c.self.invariant.2,
      c.self.invariant.3,
      runs_longer inside.runs (block_now inside.blocks inside.pending.first inside.pending.fresh) inside.len c.args.n longer c.self.invariant.4,
      c.self.invariant.5,
      c.self.invariant.6,
      c.self.invariant.7,
    )

pub invariant_of-self-2 : goal.invariant_of-self-2
invariant_of-self-2 c =
    let inside = c.self.inside in
    let fresh : List (List ℕ) = inside.pending.fresh in
    let block : ℕ → List ℕ = block_now inside.blocks inside.pending.first fresh in
    let cut : FileBlocks = c.cut.new.self in
    let now : ℕ → List ℕ = block_now cut inside.pending.first fresh in
    let none : length fresh ≡ 0 = ap (λ (v : FileBytes). v.left) c.self.view_is ∙ c.requires in
    let here : (i : ℕ) → byte_in now i ≡ byte_in (block_in cut) i = λ i. ap (λ (b : List ℕ). get_or b (i % 4096) 0) (now_none cut inside.pending.first fresh none (i / 4096)) in
    let was : (i : ℕ) → byte_in block i ≡ byte_in (block_in inside.blocks) i = λ i. ap (λ (b : List ℕ). get_or b (i % 4096) 0) (now_none inside.blocks inside.pending.first fresh none (i / 4096)) in
    let empty : length inside.pending.filled.bytes ≡ 0 = c.self.invariant.7 none in
    let small : (k : ℕ) → length (now k) ≤ 4096 = λ k.
    omega (arith, ap (λ (b : List ℕ). length b) (now_none cut inside.pending.first fresh none k), c.cut.ensures.less k, ap (λ (b : List ℕ). length b) (now_none inside.blocks inside.pending.first fresh none k), c.self.invariant.0 k) in (
      small,
      λ i le. here i ∙ c.cut.ensures.bytes i ∙ if_above i c.args.n (byte_in (block_in inside.blocks) i) 0 le,
      λ k from to. absurd (omega (arith, from, to, none)),
      c.self.invariant.3,
      runs_cut inside.runs c.cut-2.new.self block now inside.len c.args.n c.self.invariant.4
          (λ i lt. here i ∙ c.cut.ensures.bytes i ∙ if_below i c.args.n (byte_in (block_in inside.blocks) i) 0 lt ∙ sym (was i))
          c.cut-2.ensures,
      held_none cut inside.pending.filled.from inside.pending.filled.bytes empty,
      c.self.invariant.6,
      c.self.invariant.7,
    )
