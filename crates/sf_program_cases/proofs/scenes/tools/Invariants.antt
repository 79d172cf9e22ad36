use Rattle.std.proofs.Common.{◌≡◌, vec_len}
use Rattle.sf_program_cases.proofs.scenes.tools.Given as goal

abbrev pub invariant-loop : goal.invariant-loop
invariant-loop l = vec_len l.tools ≡ l.counter
