use Rattle.sf_call.proofs.MovedNames.{moved_to_new, moved_from_old, moved_outside}
use Rattle.sf_call.proofs.tree_laws.moved_names.Goals as goal

pub returns-clause-to_new : goal.returns-clause-to_new
returns-clause-to_new c = moved_to_new

pub returns-clause-from_old : goal.returns-clause-from_old
returns-clause-from_old c = moved_from_old

pub returns-clause-outside : goal.returns-clause-outside
returns-clause-outside c = moved_outside
