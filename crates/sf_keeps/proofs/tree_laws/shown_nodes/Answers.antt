use Rattle.sf_keeps.proofs.KeepsShown.{node_shown, directory_shown, file_shown}
use Rattle.sf_keeps.proofs.tree_laws.shown_nodes.Goals as goal

pub returns-clause-node : goal.returns-clause-node
returns-clause-node c = node_shown

pub returns-clause-directory : goal.returns-clause-directory
returns-clause-directory c = directory_shown

pub returns-clause-file : goal.returns-clause-file
returns-clause-file c = file_shown
