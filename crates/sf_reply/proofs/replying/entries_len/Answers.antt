use Rattle.std.proofs.Common.{arith}
use Rattle.sf_reply.proofs.Entries.{left_none, length-left}
use Rattle.std.proofs.Common.{length, ap}
use Rattle.sf_reply.proofs.replying.entries_len.Goals as goal

pub entry_len-total-requires : goal.entry_len-total-requires
entry_len-total-requires c = omega (arith, c.loop-entry.invariant, length-left c.args.entries.now c.loop-entry.entry-index c.entry-item.result c.entry-item.is c.loop-entry-test.true)

pub loop-entry-preserved : goal.loop-entry-preserved
loop-entry-preserved c = omega (arith, c.loop-entry.invariant, length-left c.args.entries.now c.loop-entry.entry-index c.entry-item.result c.entry-item.is c.loop-entry-test.true)

pub returns : goal.returns
returns c = omega (arith, c.loop-entry.invariant, ap length (left_none c.args.entries.now c.loop-entry.entry-index c.loop-entry-test.false))
