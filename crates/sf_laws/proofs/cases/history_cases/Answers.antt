use Rattle.std.proofs.Common.{refl}
use Rattle.sf_call.specs.Histories.{replay}
use Rattle.sf_laws.proofs.Laws.{legal_history}
use Rattle.sf_laws.proofs.cases.history_cases.Goals as goal

pub returns-clause-legal : goal.returns-clause-legal
returns-clause-legal c = legal_history

pub returns-clause-replayed : goal.returns-clause-replayed
unfolding replay
returns-clause-replayed c = refl
