use Rattle.sf_call.proofs.Laws.{given_before}
use Rattle.sf_call.proofs.history_laws.given_by_history.Goals as goal

pub returns : goal.returns
returns c = given_before
