use Rattle.std.proofs.Common.{refl}
use Rattle.sf_server.proofs.Connections.{takes_none, takes_more, taker_ended, no_more}
use Rattle.sf_server.proofs.accepting.accept_all.Goals as goal

pub loop-init : goal.loop-init
loop-init g c = takes_none _ _ _ _ refl refl

pub returns-in_default-clause-takes : goal.returns-in_default-clause-takes
returns-in_default-clause-takes g c = no_more c.args.most _ c.loop.invariant c.loop-test.true c.in_default.ensures.none.0

pub returns-then-not-take-clause-takes : goal.returns-then-not-take-clause-takes
returns-then-not-take-clause-takes g c = taker_ended c.args.most _ c.in-Some.line c.loop.invariant c.loop-test.true c.in-Some.ensures.some (c.if-not-take.ensures.ended refl)

pub loop-preserved : goal.loop-preserved
loop-preserved g c = takes_more c.in-Some.line c.loop.invariant c.in-Some.ensures.some (c.if-not-take.ensures.taken refl)
