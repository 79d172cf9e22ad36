use Rattle.sf_coupling.proofs.Laws.{waits_at_top}
use Rattle.sf_coupling.proofs.walk_laws.waits_above.Goals as goal

pub returns : goal.returns
returns c s walks n m other held_path from top ends is held = waits_at_top walks other held_path from is held
