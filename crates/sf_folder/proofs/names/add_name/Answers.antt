use Rattle.std.proofs.Common.{sym, subst}
use Rattle.sf_folder.specs.Names.{AddsNames}
use Rattle.sf_folder.proofs.Listed.{added_none, added_one}
use Rattle.sf_folder.proofs.names.add_name.Goals as goal

pub returns : goal.returns
returns c = subst (AddsNames c.args.names.now.items) (sym c.in_ok-push.ensures.items) (added_one _ _ _ (added_none _))
