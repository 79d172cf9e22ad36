use Rattle.sf_asking.proofs.conversing.open.Goals as goal

pub returns : goal.returns
returns g c = (c.apply.result, (c.apply.ensures.on, c.apply.ensures.err), c.opened_by.ensures)
