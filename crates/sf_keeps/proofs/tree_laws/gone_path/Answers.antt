use Rattle.sf_keeps.proofs.KeepsNames.{keeps_unlinked}
use Rattle.sf_keeps.proofs.tree_laws.gone_path.Goals as goal

pub returns : goal.returns
returns c s t p dir n id = keeps_unlinked p n
