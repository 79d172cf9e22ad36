use Rattle.sf_core.proofs.Passing.{begins_is}
use Rattle.sf_core.proofs.parts.helping.begins.Goals as goal

pub returns : goal.returns
returns c = begins_is c.args.path.now c.args.front.now c.begins_with.result c.begins_with.ensures
