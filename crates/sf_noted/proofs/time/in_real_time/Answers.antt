use Rattle.sf_noted.proofs.RealTime.{precedes}
use Rattle.sf_noted.proofs.time.in_real_time.Goals as goal

pub returns : goal.returns
returns c = precedes
