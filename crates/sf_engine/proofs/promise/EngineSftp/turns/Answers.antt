use Rattle.sf_engine.proofs.StepsLeft.{promised}
use Rattle.sf_engine.proofs.promise.EngineSftp.turns.Goals as goal

pub returns : goal.returns
returns c = λ log has. let it = c.turns.ensures log has.0 in (it.0, it.1, promised it.2, it.3)
