use Rattle.std.proofs.Common.{arith}
use Rattle.sf_reply.proofs.ReplyReading.{found, none_found}
use Rattle.sf_reply.proofs.reading.find_reply.Goals as goal

pub returns-clause-found : goal.returns-clause-found
returns-clause-found c = found c.args.body.now _ c.reply.result (λ i. omega (arith, c.type_inv.body i)) c.reply.ensures.found

pub returns-clause-none : goal.returns-clause-none
returns-clause-none c = none_found c.args.body.now _ c.reply.result c.reply.ensures.found
