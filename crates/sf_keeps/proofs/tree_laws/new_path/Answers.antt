use Rattle.sf_keeps.proofs.KeepsNames.{keeps_inserted}
use Rattle.sf_keeps.proofs.tree_laws.new_path.Goals as goal

pub returns : goal.returns
returns c old new t p dir n id made = keeps_inserted p made
