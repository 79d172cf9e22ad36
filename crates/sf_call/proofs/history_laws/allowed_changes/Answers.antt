use Rattle.sf_call.proofs.Laws.{allowed_changes, well_formed}
use Rattle.sf_call.proofs.history_laws.allowed_changes.Goals as goal

pub returns-clause-request : goal.returns-clause-request
returns-clause-request c = allowed_changes

pub returns-clause-kept : goal.returns-clause-kept
returns-clause-kept c = well_formed
