use Rattle.std.proofs.Common.{refl}
use Rattle.sf_alone.proofs.Hosting.{sent_on}
use Rattle.sf_alone.proofs.on_engine.EngineHostHostEngine.sent.Goals as goal

pub returns-clause-sent : goal.returns-clause-sent
returns-clause-sent g c = λ start told t tells. sent_on c.waiting-n.result.now tells c.waiting-n.ensures refl c.tell_sent.ensures
