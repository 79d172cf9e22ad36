use Rattle.sf_keeps.proofs.Closing.{keeps_closed}
use Rattle.sf_keeps.proofs.ClosingAll.{keeps_closed_all}
use Rattle.sf_keeps.proofs.NodesKept.{nodes_kept}
use Rattle.sf_keeps.proofs.handle_laws.closed_handles.Goals as goal

pub returns-clause-one : goal.returns-clause-one
returns-clause-one c = λ s t session number h k at. keeps_closed s t k session number h at

pub returns-clause-all : goal.returns-clause-all
returns-clause-all c = λ s t session k. keeps_closed_all s t k session

pub returns-clause-nodes : goal.returns-clause-nodes
returns-clause-nodes c = λ s session. nodes_kept s session
