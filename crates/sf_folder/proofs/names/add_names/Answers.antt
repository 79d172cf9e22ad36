use Rattle.sf_folder.proofs.Listed.{added_none, added_more}
use Rattle.sf_folder.proofs.names.add_names.Goals as goal

pub loop-init : goal.loop-init
loop-init c = added_none _

pub loop-preserved : goal.loop-preserved
loop-preserved c = added_more _ _ _ c.loop.invariant c.in_ok-add_name.ensures
