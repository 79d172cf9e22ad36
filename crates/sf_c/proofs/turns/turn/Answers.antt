use Rattle.std.proofs.Common.{rules}
use Rattle.sf_c.specs.Numbers.{IsNumber}
use Rattle.sf_c.proofs.Calls.{stored}
use Rattle.sf_c.proofs.turns.turn.Goals as goal

pub returns : goal.returns
returns c = (c.turn.result, stored (IsNumber c.turn.result) c.number_of.result (search rules) c.number_of.ensures, c.turn.ensures)
