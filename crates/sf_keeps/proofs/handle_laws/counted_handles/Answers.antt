use Rattle.sf_keeps.proofs.SessionHandles.{handle_count}
use Rattle.sf_keeps.proofs.handle_laws.counted_handles.Goals as goal

pub returns : goal.returns
returns c = λ s t session k. handle_count s t k session
