use Rattle.sf_engine.proofs.StepsLeft.{promised}
use Rattle.sf_engine.proofs.promise.EngineSftp.feed.Goals as goal

pub returns-clause-on : goal.returns-clause-on
returns-clause-on c = λ fed same log has. let it = c.feed.ensures.log fed same log has.0 in (it.0, it.1, it.2, promised it.3)
