use Rattle.sf_keeps.proofs.Copied.{left_shown, left_holders, left_there, left_others, rest_after}
use Rattle.sf_keeps.proofs.tree_laws.copied_blocks.Goals as goal

pub returns-clause-shown : goal.returns-clause-shown
returns-clause-shown c = left_shown

pub returns-clause-holders : goal.returns-clause-holders
returns-clause-holders c = left_holders

pub returns-clause-there : goal.returns-clause-there
returns-clause-there c = left_there

pub returns-clause-others : goal.returns-clause-others
returns-clause-others c = left_others

pub returns-clause-rest : goal.returns-clause-rest
returns-clause-rest c = rest_after
