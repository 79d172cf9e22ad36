use Rattle.std.proofs.Common.{rules}
use Rattle.sf_engine.proofs.Laws.{promised}
use Rattle.sf_c.specs.Numbers.{IsNumber}
use Rattle.sf_c.proofs.Calls.{stored}
use Rattle.sf_c.proofs.turns.apply.Goals as goal

pub returns : goal.returns
returns c = (
  c.apply.result,
  ((λ log has. let it = c.apply.ensures.log log has.0 in (it.0, it.1, it.2, promised it.3)), c.apply.ensures.err),
  c.apply.ensures.log,
  stored (IsNumber c.apply.result) c.number_of.result (search rules) c.number_of.ensures,
)
