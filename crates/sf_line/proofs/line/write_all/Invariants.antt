use Rattle.std.proofs.Common.{◌≡◌, ◌≤◌, length}
use Rattle.sf_line.proofs.Writing.{Sent}
use Rattle.sf_line.proofs.line.write_all.Given as goal

-- the bytes written, followed by the rest, are all bytes
abbrev pub invariant-loop-rest : goal.invariant-loop-rest
invariant-loop-rest g l = record {
  sent : Sent (g.L.Line.outgoing l.initial.line) (g.L.Line.outgoing l.line) (g.L.Line.calls l.initial.line) (g.L.Line.calls l.line) l.bytes l.rest;
  incoming : g.L.Line.incoming l.line ≡ g.L.Line.incoming l.initial.line;
  failures : g.L.Line.failed l.initial.line ≤ g.L.Line.failed l.line;
}

abbrev pub decreases-loop-rest : goal.decreases-loop-rest
decreases-loop-rest g l = length l.rest
