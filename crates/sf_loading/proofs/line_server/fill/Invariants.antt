use Rattle.std.proofs.Common.{◌≡◌, ◌≤◌, ◌-◌, length, take}
use Rattle.std.specs.Io.KnownBytes.{Consumes}
use Rattle.sf_loading.proofs.line_server.fill.Given as goal

-- the bytes read are the first bytes of the buffer
abbrev pub invariant-loop-filled : goal.invariant-loop-filled
invariant-loop-filled g l =
    (l.filled ≤ length l.buffer)
    × (length l.buffer ≡ length l.initial.buffer)
    × Consumes (g.L.Line.incoming l.initial.line) (g.L.Line.incoming l.line) (take l.filled l.buffer)
    × (g.L.Line.outgoing l.line ≡ g.L.Line.outgoing l.initial.line)

abbrev pub decreases-loop-filled : goal.decreases-loop-filled
decreases-loop-filled g l = length l.initial.buffer - l.filled
