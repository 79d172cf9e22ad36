use Rattle.sf_keeps.proofs.Untouched.{edited_apart, edited_itself, inserted_alike, unlinked_alike, relinked_alike}
use Rattle.sf_keeps.proofs.tree_laws.other_nodes.Goals as goal

pub returns-clause-edited : goal.returns-clause-edited
returns-clause-edited c = edited_apart

pub returns-clause-itself : goal.returns-clause-itself
returns-clause-itself c = edited_itself

pub returns-clause-inserted : goal.returns-clause-inserted
returns-clause-inserted c = inserted_alike

pub returns-clause-unlinked : goal.returns-clause-unlinked
returns-clause-unlinked c = unlinked_alike

pub returns-clause-relinked : goal.returns-clause-relinked
returns-clause-relinked c = relinked_alike
