use Rattle.sf_call.proofs.Laws.{short_file, named_path}
use Rattle.sf_laws.proofs.OpenHandles.{handles_hold}
use Rattle.sf_laws.proofs.handle_laws.limits_hold.Goals as goal

pub returns-clause-files : goal.returns-clause-files
returns-clause-files c = short_file

pub returns-clause-handles : goal.returns-clause-handles
returns-clause-handles c history session legal = (handles_hold history legal).few session

pub returns-clause-paths : goal.returns-clause-paths
returns-clause-paths c = named_path
