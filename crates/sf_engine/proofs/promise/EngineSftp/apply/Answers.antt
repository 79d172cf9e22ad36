use Rattle.sf_engine.proofs.StepsLeft.{promised}
use Rattle.sf_engine.proofs.promise.EngineSftp.apply.Goals as goal

pub returns-clause-on : goal.returns-clause-on
returns-clause-on c = λ log has. let it = c.apply.ensures.log log has.0 in (it.0, it.1, it.2, promised it.3)
