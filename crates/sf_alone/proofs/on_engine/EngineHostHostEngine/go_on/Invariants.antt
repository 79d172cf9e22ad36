use Rattle.std.proofs.Common.{◌≡◌, ◌-◌, ◌^◌}
use Rattle.sf_session.specs.SessionStates.{SessionState}
use Rattle.sf_connection.specs.Hosts.{IsOpen, HasSent}
use Rattle.sf_alone.specs.OnEngine.{Since, IsToldBy}
use Rattle.sf_alone.proofs.Turning.{MayTurn}
use Rattle.sf_alone.proofs.on_engine.EngineHostHostEngine.go_on.Given as goal

-- the session may take a turn
abbrev pub invariant-loop-self : goal.invariant-loop-self
invariant-loop-self g l = record {
  session : l.self.session ≡ l.initial.self.session;
  told : (start : Since) (t : SessionState) → IsToldBy l.initial.self.turns start l.initial.self.session l.initial.engine (g.C.Clock.moments l.initial.clock) t → IsOpen t → HasSent t
      → MayTurn l.self.turns start l.initial.self.session l.engine (g.C.Clock.moments l.clock) l.may_begin t;
}

abbrev pub decreases-loop-self : goal.decreases-loop-self
decreases-loop-self g l = (2 ^ 64 - 1) - l.self.turns
