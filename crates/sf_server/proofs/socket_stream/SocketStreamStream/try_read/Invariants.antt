use Rattle.std.proofs.Common.{◌≡◌}
use Rattle.sf_server.proofs.socket_stream.SocketStreamStream.try_read.Given as goal

-- a call that a signal interrupts does not count as a failure
abbrev pub invariant-loop : goal.invariant-loop
invariant-loop l = l.self.failures ≡ l.initial.self.failures
