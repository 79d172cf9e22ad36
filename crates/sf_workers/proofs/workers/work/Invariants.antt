use Rattle.std.proofs.Common.{◌≡◌, vec_len, []}
use Rattle.std.specs.Prelude.{map}
use Rattle.slab.specs.Slab.{values}
use Rattle.sf_workers.specs.LaneSessions.{AreOpenSessions, stream_before}
use Rattle.sf_workers.specs.Streams.{ServesSource}
use Rattle.sf_workers.proofs.workers.work.Given as goal

-- the streams so far
abbrev pub invariant-loop : goal.invariant-loop
invariant-loop g l = record {
  keeps : l.connections.sessions.keeps ≡ l.keeps;
  room : vec_len l.piece ≡ 65536;
  going : AreOpenSessions g.L.Stream.view l.connections.sessions.keeps (values l.connections.active);
  streams : ServesSource g.L.Stream.view (g.S.StreamSource.view l.initial.source) (g.S.StreamSource.view l.source) [] (map stream_before (values l.connections.active)) [] l.connections.sessions.visits.items;
}
