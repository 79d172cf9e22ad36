use Rattle.std.proofs.Common.{◌≡◌, ℕ, true, arith}
use Rattle.std.specs.Prelude.{◌==◌}
use Rattle.std.proofs.lemmas.Bool.Decides.{nat_tests}
use Rattle.sf_workers.proofs.Slabs.{no_values}
use Rattle.sf_workers.proofs.connections.Connections.are_closed.Goals as goal

is_nought : (n : ℕ) → (n == 0) ≡ true → n ≡ 0
is_nought n test = grind (arith, nat_tests)

pub returns : goal.returns
returns g c = λ closed. no_values c.args.self.now.active (is_nought _ (rw c.is_empty.ensures at closed))
