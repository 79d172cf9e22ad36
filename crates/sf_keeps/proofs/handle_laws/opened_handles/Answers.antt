use Rattle.sf_keeps.proofs.Opening.{keeps_opened}
use Rattle.sf_keeps.proofs.handle_laws.opened_handles.Goals as goal

pub returns : goal.returns
returns c = λ s t session number id marks node k low high free here. keeps_opened s t k session number id marks node low high free here
