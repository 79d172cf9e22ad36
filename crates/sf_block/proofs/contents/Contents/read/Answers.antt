use Rattle.std.proofs.Common.{refl, ◌+◌, ◌/◌, ◌%◌, ◌≡◌, ◌-◌, ◌∙◌, ℕ, min, List, length, take, drop, IfOk, sym, ap, subst, arith}
use Rattle.sf_block.specs.Contents.{FileBytes}
use Rattle.sf_block.specs.Blocks.{block_in, block_now, bytes_from}
use Rattle.sf_block.proofs.Places.{read_is, same_blocks}
use Rattle.sf_block.proofs.Waiting.{now_none}
use Rattle.sf_block.proofs.Running.{run_read}
use Rattle.sf_block.proofs.contents.Contents.read.Goals as goal

pub returns : goal.returns
returns c =
    let inside = c.self.inside in
    let none : length inside.pending.fresh ≡ 0 = ap (λ (v : FileBytes). v.left) c.self.view_is ∙ c.requires.whole in
    let all : bytes_from (block_in inside.blocks) 0 inside.len ≡ c.args.self.now.bytes =
    sym (same_blocks (block_now inside.blocks inside.pending.first inside.pending.fresh) (block_in inside.blocks) 0 inside.len (now_none inside.blocks inside.pending.first inside.pending.fresh none))
    ∙ ap (λ (v : FileBytes). v.bytes) c.self.view_is in
    let start : c.min-start.result ≡ min c.args.offset inside.len = omega (arith, c.min-start.ensures) in
    let n : c.min-n.result ≡ min c.args.most (inside.len - c.min-start.result) = omega (arith, c.min-n.ensures) in
    let is : c.in_ok-gather.field-0.items ≡ take c.args.most (drop c.args.offset c.args.self.now.bytes) =
    c.in_ok-gather.ensures
    ∙ read_is (block_in inside.blocks) inside.len c.args.offset c.args.most c.min-start.result c.min-n.result start n
    ∙ ap (λ (x : List ℕ). take c.args.most (drop c.args.offset x)) all in
    subst (λ (x : List ℕ). IfOk c.from_vec.result (λ bytes. bytes ≡ x)) is c.from_vec.ensures

pub returns-in-Some : goal.returns-in-Some
returns-in-Some c =
    let inside = c.self.inside in
    let block : ℕ → List ℕ = block_now inside.blocks inside.pending.first inside.pending.fresh in
    let from : ℕ = c.min-start.result in
    let start : c.min-start.result ≡ min c.args.offset inside.len = omega (arith, c.min-start.ensures) in
    let n : c.min-n.result ≡ min c.args.most (inside.len - c.min-start.result) = omega (arith, c.min-n.ensures) in
    let run = c.self.invariant.4 (from / 32768) c.in-Some.run'.now (sym c.in-Some.ensures) in
    let is : take (from % 32768 + c.min-n.result - from % 32768) (drop (from % 32768) c.in-Some.run'.now) ≡ take c.args.most (drop c.args.offset c.args.self.now.bytes) =
    run_read block inside.len (from / 32768) from c.min-n.result c.in-Some.run'.now run refl (omega (arith, c.if-n-from.true))
    ∙ read_is block inside.len c.args.offset c.args.most from c.min-n.result start n
    ∙ ap (λ (v : FileBytes). take c.args.most (drop c.args.offset v.bytes)) c.self.view_is in
    subst (λ (x : List ℕ). IfOk c.part.result (λ bytes. bytes ≡ x)) is c.part.ensures
