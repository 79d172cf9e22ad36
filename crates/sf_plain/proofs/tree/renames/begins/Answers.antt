use Rattle.sf_plain.proofs.Renames.{begins_so}
use Rattle.sf_plain.proofs.tree.renames.begins.Goals as goal

pub returns : goal.returns
returns c = begins_so c.args.path.now c.args.front.now c.begins_with.result c.begins_with.ensures
