use Rattle.sf_keeps.proofs.Openings.{object_there, one_node, entry_node}
use Rattle.sf_keeps.proofs.Finding.{reached_node}
use Rattle.sf_keeps.proofs.tree_laws.kept_nodes.Goals as goal

pub returns-clause-object : goal.returns-clause-object
returns-clause-object c = λ s t id node k. object_there s t k id node

pub returns-clause-one : goal.returns-clause-one
returns-clause-one c = λ s t i j x y k. one_node s t k i j x y

pub returns-clause-reached : goal.returns-clause-reached
returns-clause-reached c = λ s t p id k. reached_node s t k p id

pub returns-clause-there : goal.returns-clause-there
returns-clause-there c = λ s t dir id n k. entry_node s t k dir id n

pub returns-clause-names : goal.returns-clause-names
returns-clause-names c = λ s t id node k. k.linked id node
