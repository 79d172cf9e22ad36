use Rattle.sf_engine.proofs.StepsLeft.{promised}
use Rattle.sf_engine.proofs.promise.EngineSftp.run.Goals as goal

pub returns : goal.returns
returns c = λ log has. let it = c.run.ensures log has.0 in (it.0, it.1, it.2, promised it.3)
