use Rattle.std.proofs.Common.{◌≡◌, ◌+◌, vec_len}
use Rattle.sf_server.proofs.server.new_tools.Given as goal

-- a poller is used or left
abbrev pub invariant-loop-poll : goal.invariant-loop-poll
invariant-loop-poll g l = vec_len l.tools + vec_len l.polls ≡ vec_len l.fn.polls

abbrev pub decreases-loop-poll : goal.decreases-loop-poll
decreases-loop-poll g l = vec_len l.polls
