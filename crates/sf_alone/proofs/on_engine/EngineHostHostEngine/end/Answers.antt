use Rattle.sf_alone.proofs.Hosting.{closed_on}
use Rattle.sf_alone.proofs.on_engine.EngineHostHostEngine.end.Goals as goal

pub returns-clause-ended : goal.returns-clause-ended
returns-clause-ended g c = λ start told t tells. closed_on tells c.close.ensures
