use Rattle.sf_engine.proofs.StepsLeft.{promised}
use Rattle.sf_engine.proofs.promise.EngineSftp.run_all.Goals as goal

pub returns-clause-rounds : goal.returns-clause-rounds
returns-clause-rounds c = λ log has. let it = c.run_all.ensures.log log has.0 in (it.0, it.1, it.2, promised it.3)

pub returns-clause-decided : goal.returns-clause-decided
returns-clause-decided c = λ log has. c.run_all.ensures.decided log has.0

pub returns-clause-few : goal.returns-clause-few
returns-clause-few c = λ log has. c.run_all.ensures.few log has.0
