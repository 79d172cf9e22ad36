use Rattle.std.proofs.Common.{sym, ap, ◌∙◌, not, arith}
use Rattle.sf_call.proofs.Laws.{open_way}
use Rattle.sf_plain.proofs.Ways.{way_fails, way_goes_on}
use Rattle.sf_plain.proofs.tree.PlainTree.is_faulty_way.Goals as goal

pub returns-then-is_none : goal.returns-then-is_none
returns-then-is_none c =
    sym (way_fails c.args.self.now c.args.path.now c.loop-n.n (omega arith) c.in_ok-front.ensures c.directory_at.ensures
    (c.is_none.ensures ∙ ap not c.if-is_none.true))

pub loop-n-preserved : goal.loop-n-preserved
loop-n-preserved c =
    way_goes_on c.args.self.now c.args.path.now c.loop-n.n c.loop-n.invariant c.in_ok-front.ensures c.directory_at.ensures
    (c.is_none.ensures ∙ ap not c.if-is_none.false)

pub returns : goal.returns
returns c = sym ((open_way c.args.self.now c.args.path.now).1 (λ k lt. c.loop-n.invariant k (omega arith)))
