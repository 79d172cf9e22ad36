use Rattle.std.proofs.Common.{refl, inl, inr}
use Rattle.sf_asking.proofs.conversing.take_all.Goals as goal

pub returns-in_default : goal.returns-in_default
returns-in_default g c = (refl, inl (c.in_default.ensures.none, refl))

pub returns-in-Ok : goal.returns-in-Ok
returns-in-Ok g c = (c.in-Some.output.now, (c.in-Some.ensures.some, (_, (c.in-Ok.ensures.on, tt))))

pub returns : goal.returns
returns g c = (c.in-Err.ensures.err, inr (_, _, (c.in-Err.ensures.on, c.in-Err.ensures.err), c.fault_for.ensures))
