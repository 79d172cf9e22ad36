use Rattle.sf_call.proofs.MovedNames.{after_front-append, append-after_front}
use Rattle.sf_call.proofs.tree_laws.fronts.Goals as goal

pub returns-clause-append : goal.returns-clause-append
returns-clause-append c = after_front-append

pub returns-clause-front : goal.returns-clause-front
returns-clause-front c = append-after_front
