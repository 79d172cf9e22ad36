use Rattle.sf_call.specs.Histories.{replay}
use Rattle.sf_call.proofs.Laws.{all_kept}
use Rattle.sf_laws.proofs.LeftAlone.{used_where_kept}
use Rattle.sf_laws.proofs.change_laws.nothing_unused.Goals as goal

pub returns-clause-named_or_open : goal.returns-clause-named_or_open
returns-clause-named_or_open c history label legal some = used_where_kept (replay history) label (all_kept history legal) some

pub returns-clause-kept : goal.returns-clause-kept
returns-clause-kept c = all_kept
