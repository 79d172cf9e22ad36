use Rattle.sf_laws.proofs.LeftAlone.{other_path, other_handle, other_object, used_object}
use Rattle.sf_laws.proofs.change_laws.left_alone.Goals as goal

pub returns-clause-paths : goal.returns-clause-paths
returns-clause-paths c = other_path

pub returns-clause-handles : goal.returns-clause-handles
returns-clause-handles c = other_handle

pub returns-clause-objects : goal.returns-clause-objects
returns-clause-objects c = other_object

pub returns-clause-used : goal.returns-clause-used
returns-clause-used c = used_object
