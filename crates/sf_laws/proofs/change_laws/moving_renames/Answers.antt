use Rattle.sf_laws.proofs.MovingRenames.{rename_moves, posix_rename_moves}
use Rattle.sf_laws.proofs.change_laws.moving_renames.Goals as goal

pub returns-clause-plain : goal.returns-clause-plain
returns-clause-plain c = rename_moves

pub returns-clause-posix : goal.returns-clause-posix
returns-clause-posix c = posix_rename_moves
