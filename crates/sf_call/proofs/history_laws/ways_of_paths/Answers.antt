use Rattle.sf_call.proofs.Laws.{named_object, named_way}
use Rattle.sf_call.proofs.history_laws.ways_of_paths.Goals as goal

pub returns-clause-object : goal.returns-clause-object
returns-clause-object c = named_object

pub returns-clause-way : goal.returns-clause-way
returns-clause-way c = named_way
