use Rattle.std.proofs.Common.{ap, ◌∙◌}
use Rattle.std.specs.Prelude.{nat_le}
use Rattle.sf_keeps.proofs.Laws.{handle_count}
use Rattle.sf_walk.proofs.opening.has_all_handles.Goals as goal

pub returns : goal.returns
returns c = λ t k. ap (nat_le 128) (c.handles.ensures ∙ handle_count _ t k _)
