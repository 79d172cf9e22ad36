use Rattle.std.proofs.Common.{◌≡◌, ◌+◌, ◌*◌, ◌-◌, ◌/◌, ◌<◌, ◌∙◌, ℕ, List, length, take, drop, sym, ap, subst, inl, inr, arith}
use Rattle.std.proofs.lemmas.Bool.{cases_eq}
use Rattle.sf_block.specs.Blocks.{block_in, HasPlace, FileBlocks}
use Rattle.sf_block.proofs.contents.share.Goals.{in-Ok, in_default}
use Rattle.sf_block.proofs.contents.share.Goals as goal

pub loop-i-preserved : goal.loop-i-preserved
loop-i-preserved c =
    let old : FileBlocks = c.args.blocks.now in
    let now : FileBlocks = c.loop-i.blocks in
    let i : ℕ = c.loop-i.i in
    let bytes : List ℕ = c.args.buffer.now in
    let was = c.loop-i.invariant in
    elim c.match-part.branch [
      | in-Ok w ↦
          let number : ℕ = c.args.first + i in
          let few : i < length bytes / 4096 = omega (arith, c.loop-i-test.true, c.loop-i.auto.i-end, c.len.ensures) in
          let size : i * 4096 + 4096 - i * 4096 ≡ 4096 = omega arith in
          let cut : w.in-Ok.part ≡ take 4096 (drop (i * 4096) bytes) = w.in-Ok.ensures ∙ ap (λ n. take n (drop (i * 4096) bytes)) size in
          record {
            same = λ k. ap (λ (b : FileBlocks). block_in b k) w.blocks-is ∙ elim (cases_eq k number) [
              | inl here ↦
                  ap (block_in w.put.new.self) here
                  ∙ w.put.ensures.at
                  ∙ cut
                  ∙ sym (c.requires.held.are i few)
                  ∙ ap (block_in old) (sym here)
              | inr other ↦ w.put.ensures.others k other ∙ was.same k
            ];
            kept = λ k place. subst (λ (b : FileBlocks). HasPlace b k) (sym w.blocks-is) (w.put.ensures.kept k (was.kept k place));
          }
      | in_default w ↦ record {
        same = λ k. ap (λ (b : FileBlocks). block_in b k) w.blocks-is ∙ was.same k;
        kept = λ k place. subst (λ (b : FileBlocks). HasPlace b k) (sym w.blocks-is) (was.kept k place);
      }
    ]
