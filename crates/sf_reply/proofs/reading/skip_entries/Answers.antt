use Rattle.sf_reply.proofs.ReadingLoop.{goes_on, ends, is_done}
use Rattle.sf_reply.proofs.reading.skip_entries.Goals as goal

pub returns-in_err-after : goal.returns-in_err-after
returns-in_err-after c = rw c.from_residual.ensures (ends c.args.count c.loop.counter c.loop.rest.now _ c.loop-test.true c.in_err-after.ensures c.loop.invariant)

pub loop-preserved : goal.loop-preserved
loop-preserved c = goes_on c.args.count c.loop.counter _ c.loop.rest.now _ _ c.loop-test.true c.in_ok-after.ensures c.loop.invariant

pub returns : goal.returns
returns c = is_done c.args.count c.loop.counter c.loop.rest.now _ c.loop-test.false c.loop.invariant
