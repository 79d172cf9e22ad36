use Rattle.sf_call.proofs.Ways.{open_way}
use Rattle.sf_call.proofs.tree_laws.open_ways.Goals as goal

pub returns : goal.returns
returns c = open_way
