use Rattle.sf_call.proofs.Orders.{same_tree}
use Rattle.sf_call.proofs.Ordered.{ordered_replay}
use Rattle.sf_call.proofs.tree_laws.ordered_trees.Goals as goal

pub returns-clause-alike : goal.returns-clause-alike
returns-clause-alike c = same_tree

pub returns-clause-replayed : goal.returns-clause-replayed
returns-clause-replayed c = ordered_replay
