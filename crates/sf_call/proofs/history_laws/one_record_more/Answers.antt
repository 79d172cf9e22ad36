use Rattle.sf_call.proofs.Growth.{replay-push, IsLegal-push}
use Rattle.sf_call.proofs.history_laws.one_record_more.Goals as goal

pub returns-clause-replayed : goal.returns-clause-replayed
returns-clause-replayed c = replay-push

pub returns-clause-legal : goal.returns-clause-legal
returns-clause-legal c = IsLegal-push
