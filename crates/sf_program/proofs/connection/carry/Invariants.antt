-- The writer took all that the reader gave so far, and the piece has room.
use Rattle.std.proofs.Common.{◌<◌, length}
use Rattle.sf_program.proofs.Carrying.{Carried}
use Rattle.sf_program.proofs.connection.carry.Given as goal

abbrev pub invariant-loop : goal.invariant-loop
invariant-loop g l = record {
  room : 0 < length l.piece;
  carried : Carried (g.R.Read.remaining l.initial.from) (g.R.Read.remaining l.from) (g.W.Write.contents l.initial.to) (g.W.Write.contents l.to);
}
