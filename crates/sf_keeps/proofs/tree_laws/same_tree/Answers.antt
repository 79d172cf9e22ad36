use Rattle.sf_keeps.proofs.KeepsEdited.{keeps_looked, keeps_held, keeps_left}
use Rattle.sf_keeps.proofs.tree_laws.same_tree.Goals as goal

pub returns-clause-find : goal.returns-clause-find
returns-clause-find c = keeps_looked

pub returns-clause-hold : goal.returns-clause-hold
returns-clause-hold c = keeps_held

pub returns-clause-copy : goal.returns-clause-copy
returns-clause-copy c = keeps_left
