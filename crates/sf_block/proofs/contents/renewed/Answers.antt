use Rattle.std.proofs.Common.{◌≡◌, ◌+◌, ◌++◌, ◌∷◌, ◌∙◌, ℕ, List, [], length, get_or, inl, inr, ap, arith}
use Rattle.std.proofs.lemmas.Bool.{cases_lt}
use Rattle.std.proofs.lemmas.List.{length_push, get_or_push, get_or_append_left}
use Rattle.sf_block.specs.Blocks.{block_in, block_written}
use Rattle.sf_block.proofs.contents.renewed.Goals as goal

pub loop-number-preserved : goal.loop-number-preserved
loop-number-preserved c =
    let fresh : List (List ℕ) = c.loop-number.fresh in
    let block : List ℕ = c.in_ok-block_with.field-0 in
    let put : c.push.new.self ≡ fresh ++ block ∷ [] = c.in_ok-push.ensures.ok in
    let count : length c.push.new.self ≡ length fresh + 1 = ap (λ (x : List (List ℕ)). length x) put ∙ length_push fresh block in
    record {
      count = omega (arith, count, c.loop-number.invariant.count);
      blocks = λ j lt. ap (λ (x : List (List ℕ)). get_or x j []) put ∙ elim (cases_lt j (length fresh)) [
        | inl before ↦ get_or_append_left fresh (block ∷ []) [] j before ∙ c.loop-number.invariant.blocks j before
        | inr from ↦
            get_or_push fresh block [] j (omega (arith, lt, from, count))
            ∙ c.in_ok-block_with.ensures
            ∙ ap (block_written (block_in c.args.blocks.now) c.args.offset c.args.bytes.now) (omega (arith, lt, from, count, c.loop-number.invariant.count))
      ];
    }
