use Rattle.sf_path.proofs.Again.{norm-text_of, fault_of-text_of}
use Rattle.sf_path.proofs.path_laws.normal_text_again.Goals as goal

pub returns-clause-path : goal.returns-clause-path
returns-clause-path c = norm-text_of

pub returns-clause-fault : goal.returns-clause-fault
returns-clause-fault c = fault_of-text_of
