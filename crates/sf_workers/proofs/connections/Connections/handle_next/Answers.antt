use Rattle.std.proofs.Common.{refl, arith}
use Rattle.sf_workers.proofs.Receiving.{source_same}
use Rattle.sf_workers.proofs.connections.Connections.handle_next.Goals as goal

pub returns-in-Ready-clause-streams : goal.returns-in-Ready-clause-streams
returns-in-Ready-clause-streams g c = source_same _ _ _ _ _ _ _ c.in-Ready.ensures.received (omega (arith, c.in-Ready.ensures.counted)) c.in-Ready.ensures.returned refl refl

pub returns-in-Nothing-clause-streams : goal.returns-in-Nothing-clause-streams
returns-in-Nothing-clause-streams g c = source_same _ _ _ _ _ _ _ c.in-Nothing.ensures.received (omega (arith, c.in-Nothing.ensures.counted)) c.in-Nothing.ensures.returned refl refl
