use Rattle.sf_call.proofs.Laws.{unused_number, no_object, no_handle, one_path, few_paths}
use Rattle.sf_call.proofs.history_laws.labels_of_paths.Goals as goal

pub returns-clause-unused : goal.returns-clause-unused
returns-clause-unused c = unused_number

pub returns-clause-no_object : goal.returns-clause-no_object
returns-clause-no_object c = no_object

pub returns-clause-no_handle : goal.returns-clause-no_handle
returns-clause-no_handle c = no_handle

pub returns-clause-one_path : goal.returns-clause-one_path
returns-clause-one_path c = one_path

pub returns-clause-few_paths : goal.returns-clause-few_paths
returns-clause-few_paths c = few_paths
