use Rattle.sf_call.specs.Histories.{replay}
use Rattle.sf_call.proofs.Laws.{ordered_replay}
use Rattle.sf_laws.proofs.RemovedNames.{removes_it}
use Rattle.sf_laws.proofs.change_laws.removed_names.Goals as goal

pub returns : goal.returns
returns c = λ history session number moment path legal e. removes_it (replay history) (ordered_replay history) moment path session number e
