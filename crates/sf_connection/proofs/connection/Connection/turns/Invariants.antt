use Rattle.std.proofs.Common.{◌≡◌, vec_len}
use Rattle.sf_connection.specs.Streams.{StreamView}
use Rattle.sf_connection.specs.Connections.{IsServing}
use Rattle.sf_connection.specs.Steps.{HasSteppedBy}
use Rattle.sf_connection.specs.Progress.{Progress}
use Rattle.sf_connection.proofs.connection.Connection.turns.Given as goal

-- the session is served so far, and few steps were without progress
abbrev pub invariant-loop-steps : goal.invariant-loop-steps
invariant-loop-steps g l = record {
  sound : g.H.Host.sound l.self.host l.place;
  room : vec_len l.piece ≡ 65536;
  served : (start : g.H.Host.Start) (from : StreamView) (p : Progress)
      → g.H.Host.serves start l.initial.self.host l.initial.place (g.C.Clock.moments l.initial.clock) p.state
      → IsServing g.H.Host.held (g.H.Host.work l.initial.self.host l.initial.place) from (g.S.Stream.view l.initial.self.stream) l.initial.self p
      → (p' : Progress) × g.H.Host.serves start l.self.host l.place (g.C.Clock.moments l.clock) p'.state
      × IsServing g.H.Host.held (g.H.Host.work l.self.host l.place) from (g.S.Stream.view l.self.stream) l.self p'
      × HasSteppedBy l.steps l.self p p';
  waits : g.S.Stream.waits l.self.stream ≡ g.S.Stream.waits l.initial.self.stream;
}
