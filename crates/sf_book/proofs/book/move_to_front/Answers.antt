use Rattle.std.proofs.Common.{◌≡◌, ◌+◌, ◌-◌, ◌<◌, length, take, drop, arith, sym, ◌∙◌, length-take, length-drop, below_more}
use Rattle.std.proofs.lemmas.List.{ext_get_or, get_or-take, get_or-drop}
use Rattle.sf_call.specs.declared.record.Record.TheVariants.{Left}
use Rattle.sf_book.proofs.book.move_to_front.Goals as goal

pub loop-i-preserved : goal.loop-i-preserved
loop-i-preserved c =
    let swapped = c.swap.ensures.by_index in
    record {
      moved = below_more _ _
          (λ k lt r. swapped.2 k r (omega arith) (omega arith) ∙ c.loop-i.invariant.moved k lt r)
          (λ r. swapped.0 r ∙ c.loop-i.invariant.left (c.args.gone + c.loop-i.i) (omega arith) r);
      left = λ k le r. swapped.2 k r (omega arith) (omega arith) ∙ c.loop-i.invariant.left k (omega arith) r;
    }

pub returns-clause-front : goal.returns-clause-front
returns-clause-front c =
    let old = c.args.entries.now in
    let new = c.loop-i.entries in
    let n = length old - c.args.gone in
    let same : length (take n new) ≡ length (drop c.args.gone old) = omega (arith, length-take n new, length-drop c.args.gone old) in
    ext_get_or (Left 0) (take n new) (drop c.args.gone old) same
    (λ k lt. let within : k < n = omega (arith, length-take n new) in
    get_or-take n new k (Left 0) within ∙ c.loop-i.invariant.moved k (omega arith) (Left 0) ∙ sym (get_or-drop c.args.gone old k (Left 0)))
