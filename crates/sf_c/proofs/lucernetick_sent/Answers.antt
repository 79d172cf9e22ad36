use Rattle.std.proofs.Common.{rules}
use Rattle.sf_c.specs.Journals.{SendsBytes}
use Rattle.sf_c.proofs.Calls.{in_both}
use Rattle.sf_c.proofs.lucernetick_sent.Goals as goal

pub returns : goal.returns
returns c = in_both (SendsBytes c.args.session c.args.count) c.sent-number.result (search rules) c.take-engine.ensures.engine c.take-refusals.ensures.refusals c.put.ensures c.put-2.ensures c.deref_mut.ensures.value c.deref_mut-2.ensures.value c.sent-number.ensures
