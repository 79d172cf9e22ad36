use Rattle.std.proofs.Common.{◌≡◌, drop}
use Rattle.sf_core.specs.Stepping.{all_set_back}
use Rattle.sf_core.proofs.parts.Parts.set_back_all.Given as goal

abbrev pub invariant-loop-number : goal.invariant-loop-number
invariant-loop-number l = all_set_back l.self (drop l.number-index l.numbers) ≡ all_set_back l.fn.self l.numbers
