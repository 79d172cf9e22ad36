use Rattle.sf_keeps.specs.Keeps.{view_of}
use Rattle.sf_keeps.proofs.Whole.{shows_one}
use Rattle.sf_keeps.proofs.KeepsFirst.{keeps_first}
use Rattle.sf_keeps.proofs.tree_laws.kept_trees.Goals as goal

pub returns-clause-one : goal.returns-clause-one
returns-clause-one c = λ s t u k l. shows_one (view_of s) t u k.shows l.shows

pub returns-clause-first : goal.returns-clause-first
returns-clause-first c = keeps_first
