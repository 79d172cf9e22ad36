use Rattle.sf_keeps.proofs.Opening.{keeps_listed}
use Rattle.sf_keeps.proofs.handle_laws.listed_handles.Goals as goal

pub returns : goal.returns
returns c = λ s t session number name h k at. keeps_listed s t k session number h at name
