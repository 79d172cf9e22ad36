use Rattle.std.proofs.Common.{[], ◌∷◌, refl, inr, arith}
use Rattle.sf_laws.proofs.cases.packet_cases.Goals as goal

pub returns-clause-none : goal.returns-clause-none
returns-clause-none c = ([], refl)

pub returns-clause-shortest : goal.returns-clause-shortest
returns-clause-shortest c = (7 ∷ [], [], record { some = omega arith; short = omega arith }, refl, refl)

pub returns-clause-longest : goal.returns-clause-longest
returns-clause-longest c = inr (262144, [], omega arith, refl, omega arith)

pub returns-clause-longer : goal.returns-clause-longer
returns-clause-longer c = (262145, [], omega arith, omega arith, refl)
