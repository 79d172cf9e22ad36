use Rattle.std.proofs.Common.{◌≡◌, vec_len}
use Rattle.sf_server.proofs.server.new_polls.Given as goal

abbrev pub invariant-loop : goal.invariant-loop
invariant-loop l = vec_len l.polls ≡ l.counter
