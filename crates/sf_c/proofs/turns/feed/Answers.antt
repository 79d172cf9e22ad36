use Rattle.std.proofs.Common.{rules}
use Rattle.sf_c.specs.Numbers.{IsNumber}
use Rattle.sf_c.proofs.Calls.{stored}
use Rattle.sf_c.proofs.Settling.{fed_so}
use Rattle.sf_c.proofs.turns.feed.Goals as goal

pub returns : goal.returns
returns c =
    let on = fed_so c.args.session c.args.bytes.now c.args.engine.now c.feed.new.engine c.args.refusals.now c.feed.new.self c.feed.result c.feed.ensures.ok c.feed.ensures.err c.feed.ensures.fault in
    (c.feed.result, stored (IsNumber c.feed.result) c.number_of.result (search rules) c.number_of.ensures, on.0, on.1)
