use Rattle.std.proofs.Common.{refl}
use Rattle.sf_connection.proofs.Turns.{serving_new}
use Rattle.sf_connection.proofs.connection.Connection.new.Goals as goal

pub returns-clause-begins : goal.returns-clause-begins
returns-clause-begins g c = λ held work now. serving_new held work now _ c.new.ensures refl refl refl refl
