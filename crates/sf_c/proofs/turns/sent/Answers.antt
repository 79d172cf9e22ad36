use Rattle.std.proofs.Common.{rules}
use Rattle.sf_c.specs.Numbers.{IsNumber}
use Rattle.sf_c.proofs.Calls.{stored}
use Rattle.sf_c.proofs.Settling.{sent_so}
use Rattle.sf_c.proofs.turns.sent.Goals as goal

pub returns : goal.returns
returns c =
    let on = sent_so c.args.session c.args.count c.args.engine.now c.sent.new.engine c.args.refusals.now c.sent.new.self c.sent.result c.sent.ensures.ok c.sent.ensures.err c.sent.ensures.fault in
    (c.sent.result, stored (IsNumber c.sent.result) c.number_of.result (search rules) c.number_of.ensures, on.0, on.1)
