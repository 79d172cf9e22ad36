use Rattle.std.proofs.Common.{sym, ap, ◌∙◌, length, arith}
use Rattle.sf_path.proofs.Fronts.{differ_at, alike_more}
use Rattle.sf_path.proofs.path.Path.common.Goals as goal

pub returns-then-ne-clause-longest : goal.returns-then-ne-clause-longest
returns-then-ne-clause-longest c =
    let mine = rw c.as_slice-own.ensures.same at c.index-own-i.is in
    let theirs = rw c.as_slice-others.ensures.same at c.index-others-i.is in
    λ lt lt'. differ_at (record { mine = mine; theirs = theirs; within = lt; within_theirs = lt' }) (sym c.if-ne.true ∙ c.ne.ensures)

pub loop-i-preserved : goal.loop-i-preserved
loop-i-preserved c =
    let mine = rw c.as_slice-own.ensures.same at c.index-own-i.is in
    let theirs = rw c.as_slice-others.ensures.same at c.index-others-i.is in
    let own = ap length c.as_slice-own.ensures.same in
    let others = ap length c.as_slice-others.ensures.same in
    alike_more (record { mine = mine; theirs = theirs; within = omega (arith, own, others); within_theirs = omega (arith, own, others) }) (sym c.if-ne.false ∙ c.ne.ensures) c.loop-i.invariant
