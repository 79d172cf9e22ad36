use Rattle.std.proofs.Common.{◌≡◌, ◌≤◌, ◌+◌, ◌++◌, Some}
use Rattle.std.specs.Vec.{vec_len, vec_capacity}
use Rattle.sf_core.specs.Progress.{overtaken, undecided_in}
use Rattle.sf_core.proofs.parts.helping.overtaken.Given as goal

abbrev pub invariant-calls : goal.invariant-calls
invariant-calls l = record {
  numbers : l.numbers.items ++ overtaken l.other-iterator l.number (Some l.old) ≡ overtaken l.calls l.number (Some l.old);
  room : vec_len l.numbers + undecided_in l.other-iterator ≤ vec_capacity l.numbers;
  places : vec_capacity l.initial.numbers ≤ vec_capacity l.numbers;
}
