-- How a session over a stream ended, by how its connection and its lane did.
use Rattle.std.proofs.Common.{◌≡◌, ◌⊎◌, ℕ, List, Result, Ok, Err, refl, ap, sym, ◌∙◌, subst, inl, inr}
use Rattle.sf_call.specs.declared.record.Record.{Record}
use Rattle.sf_call.specs.declared.fault.JoinFault.{JoinFault}
use Rattle.sf_core.specs.Cores.{LaneState}
use Rattle.sf_core.specs.Cores.LaneState.{NoLane}
use Rattle.sf_session.specs.declared.cause.Cause.{Cause}
use Rattle.sf_session.specs.declared.fault.ServeFault.{ServeFault}
use Rattle.sf_session.specs.SessionStates.{SessionState}
use Rattle.sf_connection.specs.Progress.{Progress}
use Rattle.sf_connection.specs.Streams.{StreamView}
use Rattle.sf_connection.specs.declared.connection.Connection.{Connection}
use Rattle.sf_connection.specs.declared.connection.Wants.{Wants}
use Rattle.sf_connection.specs.declared.connection.Wants.TheVariants.{Read, Write, Both, Again, Ended}
use Rattle.sf_connection.specs.Connections.{Returns, IfEnded}
use Rattle.sf_noted.specs.Pages.{BegunCall, Page}
use Rattle.sf_audit.specs.Audits.{call_records}
use Rattle.sf_pool.specs.SessionLanes.{SessionLaneState, JoinRefused, Joined, SessionLaneView, HasCallUnderWay}
use Rattle.sf_pool.specs.Scenes.{LaneScene, lane_held, NotesCalls, IsInCall, IsSessionBetween}
use Rattle.sf_pool.specs.OnCores.{IsPageOf, IsVisitOf}
use Rattle.sf_pool.specs.declared.lane_connection.LaneConnection.{LaneConnection}
use Rattle.sf_pool.specs.declared.shared_lane.SharedLane.{SharedLane}
use Rattle.sf_pool.specs.LaneConnections.{ReturnsOnLane, EndsOnLane, HasEnded}
use Rattle.sf_workers.specs.LaneSessions.{shared_scene, BeganNew, IsOpenSession, IsEndedSession}
use Rattle.sf_workers.specs.Sessions.{WasServed, IsVisitBetween}

pub same_state : (a b : LaneState BegunCall) → Joined a ≡ Joined b → a ≡ b
same_state a b e = cc

-- a session that was refused never joined
refused_not_joined : (a : LaneState BegunCall) (refusal : JoinFault) → Joined a ≡ JoinRefused refusal → ⊥
refused_not_joined a refusal e = cc

refused_rests : (place : SessionLaneState) (refusal : JoinFault) → place ≡ JoinRefused refusal → HasCallUnderWay place → ⊥
refused_rests place refusal e call = subst HasCallUnderWay e call

pub has_joined : (lane : SessionLaneView) (visit : Result (ℕ × Page) JoinFault) → IsVisitOf lane visit → HasEnded lane.place → (refusal : JoinFault) → visit ≡ Err refusal → ⊥
has_joined lane (Ok x) is ended refusal e = cc
has_joined lane (Err r) is (inl left) refusal e = refused_not_joined NoLane r (sym left ∙ is)
has_joined lane (Err r) is (inr call) refusal e = refused_rests lane.place r is call

stands : (x : ℕ × Page) (lane : SessionLaneView) (t : SessionState) → IsPageOf lane x → EndsOnLane lane t → (x.1.state ≡ NoLane) ⊎ IsInCall (Joined x.1.state) t.phase
stands x lane t page (inl left) = inl (same_state x.1.state NoLane (page.place ∙ left))
stands x lane t page (inr call) = inr (subst (λ (place : SessionLaneState). IsInCall place t.phase) (sym page.place) call.0)

pub was_served : {H S : Type 0} (outcome : Result Cause ServeFault) (x : ℕ × Page) (start now : LaneScene) (from to : StreamView) (c : Connection H S) (p p' : Progress) → IsPageOf now.lane x
    → Returns (Ended outcome) lane_held now.lane.steps from to c p p' → NotesCalls start now p'.state → EndsOnLane now.lane p'.state → WasServed x from to now.lane.steps
was_served (Ok cause) x start now from to c p p' page returns notes ends =
    record { progress = p'; passed = returns.0; calls = page.told ∙ notes.noted; stands = stands x now.lane p'.state page ends; outcome = Ok cause; ends = returns.1 }
was_served (Err f) x start now from to c p p' page returns notes ends =
    record { progress = p'; passed = returns.0; calls = page.told ∙ notes.noted; stands = stands x now.lane p'.state page ends; outcome = Err f; ends = (returns.1, returns.2) }

-- after `advance` a session goes on, or has ended
pub goes_or_ends : {R B G L : Type 0} (wants : Wants) (view : L → StreamView) (c : LaneConnection (SharedLane R B) G L) (p p' : Progress) → BeganNew c → IfEnded wants (Unit {0}) (HasEnded c.lane.transcript_lane.place) → ReturnsOnLane wants shared_scene view c p p' → IfEnded wants (IsOpenSession view c) (IsEndedSession view c)
goes_or_ends Read view c p p' new ended returns = (new, (p', returns.2))
goes_or_ends Write view c p p' new ended returns = (new, (p', returns.2))
goes_or_ends Both view c p p' new ended returns = (new, (p', returns.2))
goes_or_ends Again view c p p' new ended returns = (new, (p', returns.2))
goes_or_ends (Ended o) view c p p' new ended returns = (new, ended, (o, p, p', returns))

pub while_open : (wants : Wants) (going gone : Type 0) → ((o : Result Cause ServeFault) → wants ≡ Ended o → ⊥) → IfEnded wants going gone → going
while_open Read going gone not h = h
while_open Write going gone not h = h
while_open Both going gone not h = h
while_open Again going gone not h = h
while_open (Ended o) going gone not h = absurd (not o refl)

pub once_ended : (wants : Wants) (going gone : Type 0) (o : Result Cause ServeFault) → wants ≡ Ended o → IfEnded wants going gone → gone
once_ended Read going gone o is h = absurd (cc)
once_ended Write going gone o is h = absurd (cc)
once_ended Both going gone o is h = absurd (cc)
once_ended Again going gone o is h = absurd (cc)
once_ended (Ended p) going gone o is h = h

-- where its calls stand
pub visit_between : (lane : SessionLaneView) (x : ℕ × Page) (before after : List Record) → IsPageOf lane x → IsSessionBetween before after lane → IsVisitBetween before after x
visit_between lane x before after page between = record {
  behind = ap (λ (n : ℕ). call_records n before) page.session ∙ between.behind;
  within = ap (λ (n : ℕ). call_records n after) page.session ∙ between.within ∙ sym page.told;
}
