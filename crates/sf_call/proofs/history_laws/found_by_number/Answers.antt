use Rattle.sf_call.proofs.Growth.{record_of-legal}
use Rattle.sf_call.proofs.history_laws.found_by_number.Goals as goal

pub returns : goal.returns
returns c = record_of-legal
