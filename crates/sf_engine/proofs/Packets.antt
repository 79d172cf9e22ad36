-- The effect of the next packet of a resting session.
use Rattle.std.proofs.Common.{◌≡◌, ℕ, List, [], ◌++◌, true, false, None, Result, IfSome, refl, ap, sym, subst, arith, inr, append-nil}
use Rattle.sf_field.specs.Fields.{packet}
use Rattle.sf_reply.specs.Replies.{reply_body}
use Rattle.sf_call.specs.declared.record.Record.{Record}
use Rattle.sf_call.specs.declared.request.Request.{Request}
use Rattle.sf_call.specs.declared.fault.BeginFault.{BeginFault}
use Rattle.sf_session.specs.declared.session.Next.{Next}
use Rattle.sf_session.specs.declared.session.Next.TheVariants as next
use Rattle.sf_session.specs.Sessions.{SessionView, NextGives, refusal_of}
use Rattle.sf_core.specs.declared.step.Step.{Step}
use Rattle.sf_core.specs.declared.step.Step.TheVariants as step
use Rattle.sf_core.specs.Lanes.{LaneView}
use Rattle.sf_core.specs.Cores.{CoreView}
use Rattle.sf_core.specs.Events.{CallBegins, begun, AnswersAtOnce, RefusesCall, StepsOn, TakesMoves, Walks, walk_end}
use Rattle.sf_core.specs.Histories.{IsHistory}
use Rattle.sf_engine.specs.declared.hosted.HostedState.{HostedState}
use Rattle.sf_engine.specs.declared.hosted.HostedState.TheVariants as state
use Rattle.sf_engine.specs.declared.event.Happened.{Happened}
use Rattle.sf_engine.specs.declared.event.Happened.TheVariants as happened
use Rattle.sf_engine.specs.declared.event.EngineFault.{EngineFault}
use Rattle.sf_engine.specs.Promise.{continues}
use Rattle.sf_engine.specs.Turns.{GivesAt, IsHostedState, is_resting, Stand, stand, IsReady, TurnGives, TurnsGive, GoesFar, Finding, finding}
use Rattle.sf_engine.proofs.Chains.{AnsweredEnd, going, answered, begun_ready, begun_far, answered_walk, answered_placed}

-- one step is a walk
walk_of_one : (v w : CoreView) (lane lane' : LaneView) (s : Step) → StepsOn v lane s w lane' → Walks v lane 1 (walk_end s w lane')
unfolding TakesMoves
walk_of_one v w lane lane' s on = record { moves = 0; mid = v; few = omega arith; moved = refl; last = on; full = λ e. refl }

-- A packet that needs a call: the session before and after it is read, the request, and the
-- session's lane.
pub record CallAsked : Type 0 where
  pub from : Stand
  pub session : SessionView
  pub request : Request
  pub lane : LaneView
  pub gave : NextGives from.session (next.Call request) session
  pub at : from.place ≡ state.Resting lane

abbrev pub asked : (v : CoreView) (x y : SessionView) (p : HostedState) {n : Next} {request : Request} {lane : LaneView} → NextGives x n y → n ≡ next.Call request → p ≡ state.Resting lane → CallAsked
asked v x y p {request = request} {lane = lane} gives is at = record {
  from = stand v x p;
  session = y;
  request = request;
  lane = lane;
  gave = subst (λ (n : Next). NextGives x n y) is gives;
  at = at;
}

-- it rested
rests : (a : CallAsked) → is_resting a.from.place ≡ true
rests a = ap is_resting a.at

-- its call begins, and the core is this one then
pub record CallBegun (a : CallAsked) (m : ℕ) : Type 0 where
  pub core : CoreView
  pub begins : CallBegins a.from.core core a.lane a.request m
  pub history : (h : List Record) → IsHistory a.from.core h → IsHistory core h

-- the session then
abbrev pub begun_stand : (a : CallAsked) → CoreView → Stand
begun_stand a w = going w a.session (begun a.lane w.drawn)

pub begun_turn : (a : CallAsked) (m : ℕ) (b : CallBegun a m) → TurnGives a.from (finding false m) happened.Begun (begun_stand a b.core)
begun_turn a m b = λ h is. (
  [],
  subst (λ (l : List Record). IsHistory b.core l) (sym (append-nil h)) (b.history h is),
  subst (λ (p : HostedState). GivesAt p a.from h (finding false m) happened.Begun [] (begun_stand a b.core)) (sym a.at) (a.request, a.gave, b.begins, refl, refl),
)

pub can_go_on : (a : CallAsked) (m : ℕ) (b : CallBegun a m) → IsReady a.from → IsReady (begun_stand a b.core)
can_go_on a m b ready = (begun_ready a.from m (begun_stand a b.core) (rests a) ready (begun_turn a m b)).1

pub goes_far : (a : CallAsked) (f : Finding) (b : CallBegun a f.moment) (last : Result Happened EngineFault) (end : Stand) → GoesFar (begun_stand a b.core) f last end → GoesFar a.from f last end
goes_far a f b last end far = begun_far a.from f (begun_stand a b.core) last end (rests a) (begun_turn a f.moment b) far

-- it is refused
pub refused_turn : (a : CallAsked) (m : ℕ) (f : BeginFault) (z : SessionView) → RefusesCall a.from.core f
    → IfSome a.session.waiting (λ id. z ≡ record a.session { output = a.session.output ++ packet (reply_body id (refusal_of f)); waiting = None })
    → TurnGives a.from (finding false m) happened.Wrote (stand a.from.core z (state.Resting a.lane))
refused_turn a m f z refused wrote = λ h is. (
  [],
  subst (λ (l : List Record). IsHistory a.from.core l) (sym (append-nil h)) is,
  subst (λ (p : HostedState). GivesAt p a.from h (finding false m) happened.Wrote [] (stand a.from.core z (state.Resting a.lane))) (sym a.at) (inr (a.request, a.session, f, a.gave, refused, wrote), refl, refl, refl),
)

-- it is answered at once
abbrev pub IsAnsweredAtOnce : CallAsked → ℕ → AnsweredEnd → Type 0
IsAnsweredAtOnce a m c = AnswersAtOnce a.from.core a.lane a.request m (walk_end (step.Answered c.answer) c.core c.lane)

began : (a : CallAsked) (m : ℕ) (c : AnsweredEnd) → IsAnsweredAtOnce a m c → CallBegun a m
began a m c made = record { core = made.mid; begins = made.begins; history = made.history }

walks : (a : CallAsked) (m : ℕ) (c : AnsweredEnd) (made : IsAnsweredAtOnce a m c) → Walks made.mid (begun a.lane made.mid.drawn) 1 (walk_end (step.Answered c.answer) c.core c.lane)
walks a m c made = walk_of_one made.mid c.core (begun a.lane made.mid.drawn) c.lane (step.Answered c.answer) made.steps

pub placed_at_once : (a : CallAsked) (m : ℕ) (c : AnsweredEnd) → IsAnsweredAtOnce a m c → IsReady a.from → IsHostedState c.core a.session (state.Decided c.lane c.answer)
unfolding began
placed_at_once a m c made ready = answered_placed (begun_stand a made.mid) (begun a.lane made.mid.drawn) 1 c (walks a m c made) (can_go_on a m (began a m c made) ready)

pub far_at_once : (a : CallAsked) (f : Finding) (c : AnsweredEnd) → IsAnsweredAtOnce a f.moment c → (last : Result Happened EngineFault) (end : Stand)
    → TurnsGive 0 (answered c.core a.session c.lane c.answer) f last end × (continues last ≡ false) → GoesFar a.from f last end
unfolding began
far_at_once a f c made last end give =
    goes_far a f (began a f.moment c made) last end (answered_walk (begun_stand a made.mid) (begun a.lane made.mid.drawn) f 1 c last end (walks a f.moment c made) give)
