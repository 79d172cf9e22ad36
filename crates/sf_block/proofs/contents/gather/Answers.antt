use Rattle.std.proofs.Common.{◌≡◌, ◌+◌, ◌++◌, ◌-◌, ◌∙◌, ℕ, List, length, ap, arith}
use Rattle.sf_block.specs.Blocks.{block_in, bytes_from}
use Rattle.sf_block.proofs.Places.{gathered}
use Rattle.sf_block.proofs.contents.gather.Goals as goal

pub loop-copy-preserved : goal.loop-copy-preserved
loop-copy-preserved c =
    let copy : List ℕ = c.loop-copy.copy.items in
    let new : List ℕ = c.append_from.new.copy.items in
    let block : ℕ → List ℕ = block_in c.args.blocks.now in
    let len : c.len-in-loop-copy.result ≡ length copy = omega (arith, c.len-in-loop-copy.ensures, c.loop-copy.copy.ok.0) in
    let len2 : c.len-in-loop-copy-2.result ≡ length copy = omega (arith, c.len-in-loop-copy-2.ensures, c.loop-copy.copy.ok.0) in
    let more = length new - length copy in
    record {
      bytes =
          c.in_ok-append_from.ensures.bytes
          ∙ ap (λ n. copy ++ bytes_from block (c.args.start + n) more) len
          ∙ ap (λ (x : List ℕ). x ++ bytes_from block (c.args.start + length copy) more) c.loop-copy.invariant.bytes
          ∙ gathered block c.args.start (length copy) more
          ∙ ap (bytes_from block c.args.start) (omega (arith, c.in_ok-append_from.ensures.grows));
      most = omega (arith, c.in_ok-append_from.ensures.most, c.loop-copy.invariant.most, len2);
    }
