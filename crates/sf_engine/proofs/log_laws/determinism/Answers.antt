use Rattle.sf_engine.proofs.SameLogs.{same_logs}
use Rattle.sf_engine.proofs.log_laws.determinism.Goals as goal

pub returns : goal.returns
returns c = same_logs
