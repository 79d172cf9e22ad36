use Rattle.sf_program.proofs.Talks.{comes_to}
use Rattle.sf_program.proofs.stdio.serve_on.Goals as goal

pub returns : goal.returns
returns g c = comes_to _ _ c.serve_one.result.0 c.serve_one.ensures.served c.serve_one.ensures.stopped
