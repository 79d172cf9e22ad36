use Rattle.sf_asking.proofs.conversing.close.Goals as goal

pub returns : goal.returns
returns g c =
    let closed = c.apply-closed in
    let left = c.turns-left in
    (closed.new.self, closed.result, left.result, (closed.ensures.on, closed.ensures.err), left.ensures)
