-- No public clause cites this module.
-- The effect of an event on a core and on one session, by their contracts.
use Rattle.std.specs.Prelude.{◌≡◌, ◌≢◌, ◌<◌, ◌≤◌, ◌+◌, ◌-◌, ◌^◌, ◌⊎◌, ◌++◌, ◌∷◌, ℕ, zero, suc, List, [], length, drop, Bool, true, false, Some, None, Result, Ok, Err, IsSome, IfSome}
use Rattle.sf_field.specs.Fields.{packet}
use Rattle.sf_reply.specs.Replies.{reply_body}
use Rattle.sf_call.specs.declared.record.Record.{Record}
use Rattle.sf_call.specs.declared.record.Record.TheVariants.{Left}
use Rattle.sf_call.specs.declared.request.Request.{Request}
use Rattle.sf_call.specs.declared.call.Call.{Call}
use Rattle.sf_call.specs.declared.fault.BeginFault.{BeginFault}
use Rattle.sf_call.specs.Answers.{AnswerView}
use Rattle.sf_session.specs.declared.cause.Cause.TheVariants.{Closed}
use Rattle.sf_session.specs.declared.session.Next.TheVariants as next
use Rattle.sf_session.specs.Sessions.{SessionView, NextGives, refusal_of, reply_room}
use Rattle.sf_core.specs.Lanes.{LaneView}
use Rattle.sf_session.specs.Sessions.{new_session}
use Rattle.sf_core.specs.Cores.LaneState.{Idle}
use Rattle.sf_core.specs.Cores.{CoreView, lane_state}
use Rattle.sf_core.specs.Events.{Before, After, Joins, OwnCall, MovesOn, IsBlocked, Fetches, Decides, AddsNothing, Answers, CallBegins, begun, RefusesCall, SessionLeaves}
use Rattle.sf_core.specs.Histories.{IsHistory}
use Rattle.sf_engine.specs.declared.hosted.HostedSession.{HostedSession}
use Rattle.sf_engine.specs.declared.hosted.HostedState.{HostedState}
use Rattle.sf_engine.specs.declared.hosted.HostedState.TheVariants as state
use Rattle.sf_engine.specs.declared.event.Happened.{Happened}
use Rattle.sf_engine.specs.declared.event.Happened.TheVariants as happened
use Rattle.sf_engine.specs.declared.event.EngineFault.{EngineFault}
use Rattle.sf_engine.specs.declared.event.EngineFault.TheVariants as fault
use Rattle.sf_engine.specs.Promise.{continues}

-- each history of the core gets more records, by this relation
abbrev pub AddsRecords : CoreView → CoreView → (List Record → List Record → Type 0) → Type 0
AddsRecords v w R =
    (h : List Record) → IsHistory v h → (added : List Record) × IsHistory w (h ++ added) × R h added

-- a core, with a session and its place
pub record Stand : Type 0 where
  pub core : CoreView
  pub session : SessionView
  pub place : HostedState

abbrev pub stand : CoreView → SessionView → HostedState → Stand
stand v x p = record { core = v; session = x; place = p }

-- whether the session was closed, and the moment
pub record Finding : Type 0 where
  pub closed : Bool
  pub moment : ℕ

abbrev pub finding : Bool → ℕ → Finding
finding closed m = record { closed = closed; moment = m }

abbrev pub before : CoreView → List Record → LaneView → Before
before v h lane = record { core = v; history = h; lane = lane }

abbrev pub after_turn : CoreView → List Record → LaneView → After
after_turn w added lane = record { core = w; added = added; lane = lane }

-- the step of a call under way
abbrev pub StepGives : Before → Happened → After → HostedState → Type 0
StepGives b happened.Moved a p = MovesOn b a × (p ≡ state.UnderWay a.lane)
StepGives b (happened.Blocked holder) a p = ((c : Call) × IsBlocked b.core a.core b.lane c holder)
    × AddsNothing b a × (p ≡ state.UnderWay a.lane)
StepGives b happened.Decided a p =
    (given : AnswerView) × ((c : Call) × (Fetches b a c given.reply ⊎ Decides b a c given.reply))
    × Answers b given a × (p ≡ state.Decided a.lane given)
StepGives b _ a p = ⊥

-- a reply without a call: the session's own, or a refusal, as the call could not begin
abbrev pub WritesAtOnce : Stand → SessionView → Type 0
WritesAtOnce a y = NextGives a.session next.Local y
    ⊎ ((request : Request) × (mid : SessionView) × (fault : BeginFault)
    × NextGives a.session (next.Call request) mid × RefusesCall a.core fault
    × IfSome mid.waiting (λ id. y ≡ record mid {
      output = mid.output ++ packet (reply_body id (refusal_of fault));
      waiting = None;
    }))

-- a turn of a resting session, by the next packet
abbrev pub ReadGives : Stand → LaneView → ℕ → Happened → List Record → Stand → Type 0
ReadGives a lane m happened.Idle added b = NextGives a.session next.More b.session
    × (b.core ≡ a.core) × (added ≡ []) × (b.place ≡ state.Resting lane)
ReadGives a lane m happened.Wrote added b = WritesAtOnce a b.session
    × (b.core ≡ a.core) × (added ≡ []) × (b.place ≡ state.Resting lane)
ReadGives a lane m happened.Begun added b =
    (request : Request) × NextGives a.session (next.Call request) b.session
    × CallBegins a.core b.core lane request m
    × (added ≡ []) × (b.place ≡ state.UnderWay (begun lane b.core.drawn))
ReadGives a lane m (happened.Ended cause) added b =
    NextGives a.session (next.Ended cause) b.session × SessionLeaves a.core b.core lane.session
    × (added ≡ Left lane.session ∷ []) × (b.place ≡ state.Gone cause)
ReadGives a lane m _ added b = ⊥

-- after a reply the session rests, or leaves if it was closed
abbrev pub RestsOrLeaves : Stand → LaneView → Bool → List Record → Stand → Type 0
RestsOrLeaves a lane false added b = (b.core ≡ a.core) × (added ≡ [])
    × (b.session ≡ a.session) × (b.place ≡ state.Resting lane)
RestsOrLeaves a lane true added b =
    SessionLeaves a.core b.core lane.session × (added ≡ Left lane.session ∷ [])
    × (b.session ≡ record a.session { unread = []; ended = Some Closed })
    × (b.place ≡ state.Gone Closed)

-- the pending reply is written
abbrev pub WritesAnswer : Stand → LaneView → AnswerView → Bool → List Record → Stand → Type 0
WritesAnswer a lane given closed added b = (mid : SessionView)
    × IfSome a.session.waiting (λ id. mid ≡ record a.session {
      output = a.session.output ++ packet (reply_body id given.reply);
      waiting = None;
    })
    × RestsOrLeaves (stand a.core mid (state.Resting lane)) lane closed added b

-- the core and the session agree with the session's place
abbrev pub IsHostedState : CoreView → SessionView → HostedState → Type 0
IsHostedState v x (state.Resting lane) =
    (lane.call ≡ None) × (lane_state v lane.session ≡ Idle) × (x.waiting ≡ None)
IsHostedState v x (state.UnderWay lane) =
    (h : List Record) × (c : Call) × IsHistory v h × OwnCall v lane c
IsHostedState v x (state.Decided lane a) =
    (lane.call ≡ None) × (lane_state v lane.session ≡ Idle) × IsSome x.waiting
IsHostedState v x (state.Gone cause) = Unit {0}

-- whether a session has a call: it is running, or its reply waits
abbrev pub is_busy : HostedState → Bool
is_busy (state.UnderWay lane) = true
is_busy (state.Decided lane given) = true
is_busy _ = false

abbrev pub is_resting : HostedState → Bool
is_resting (state.Resting lane) = true
is_resting _ = false

abbrev pub is_under_way : HostedState → Bool
is_under_way (state.UnderWay lane) = true
is_under_way _ = false

-- whether it has a lane, and which
abbrev pub has_lane : HostedState → Bool
has_lane (state.Gone cause) = false
has_lane _ = true

abbrev pub IsLaneOf : HostedState → LaneView → Type 0
IsLaneOf (state.Resting own) lane = lane ≡ own
IsLaneOf (state.UnderWay own) lane = lane ≡ own
IsLaneOf (state.Decided own given) lane = lane ≡ own
IsLaneOf (state.Gone cause) lane = ⊥

-- a turn at a place
abbrev pub GivesAt : HostedState → Stand → List Record → Finding → Happened → List Record → Stand
    → Type 0
GivesAt (state.Resting lane) a h f r added b = ReadGives a lane f.moment r added b
GivesAt (state.UnderWay lane) a h f r added b =
    ((lane' : LaneView) × StepGives (before a.core h lane) r (after_turn b.core added lane')
    b.place) × (b.session ≡ a.session)
GivesAt (state.Decided lane given) a h f r added b =
    (r ≡ happened.Wrote) × WritesAnswer a lane given f.closed added b
GivesAt (state.Gone cause) a h f r added b =
    (r ≡ happened.Ended cause) × (b.core ≡ a.core) × (added ≡ []) × (b.session ≡ a.session)
    × (b.place ≡ state.Gone cause)

-- a turn, by the place before it
abbrev pub PlaceGives : Stand → List Record → Finding → Happened → List Record → Stand → Type 0
PlaceGives a h f r added b = GivesAt a.place a h f r added b

-- nothing changes
abbrev pub StaysAs : Stand → List Record → Stand → Type 0
StaysAs a added b =
    (b.core ≡ a.core) × (added ≡ []) × (b.session ≡ a.session) × (b.place ≡ a.place)

-- closing at a place; `goes_on` says whether the session's call is answered first
abbrev pub ClosesAt : HostedState → Stand → List Record → Stand → Bool → Type 0
ClosesAt (state.Resting lane) a added b goes_on = RestsOrLeaves a lane true added b
    × (goes_on ≡ false)
ClosesAt (state.UnderWay lane) a added b goes_on = StaysAs a added b × (goes_on ≡ true)
ClosesAt (state.Decided lane given) a added b goes_on = StaysAs a added b × (goes_on ≡ true)
ClosesAt (state.Gone cause) a added b goes_on = StaysAs a added b × (goes_on ≡ false)

-- closing, by the place before it
abbrev pub CloseGives : Stand → List Record → Stand → Bool → Type 0
CloseGives a added b goes_on = ClosesAt a.place a added b goes_on

-- bytes were fed
pub record FeedGives (p : HostedSession) (bytes : List ℕ) (r : Happened) (q : HostedSession)
    : Type 0 where
  pub fed : r ≡ happened.Fed
  pub unclosed : p.closed ≡ false
  pub unended : p.session.ended ≡ None
  pub now : q ≡ record p { session = record p.session { unread = p.session.unread ++ bytes } }

abbrev pub FeedFault : HostedSession → EngineFault → Type 0
FeedFault p fault.OutOfMemory = (p.closed ≡ false) × (p.session.ended ≡ None)
FeedFault p fault.Ended = (p.closed ≡ true) ⊎ (p.session.ended ≢ None)
FeedFault p _ = ⊥

-- the first bytes of the output were sent
pub record SentGives (p : HostedSession) (n : ℕ) (r : Happened) (q : HostedSession) : Type 0 where
  pub sent : r ≡ happened.Sent
  pub within : n ≤ length p.session.output
  pub now : q ≡ record p { session = record p.session { output = drop n p.session.output } }

abbrev pub SentFault : HostedSession → ℕ → EngineFault → Type 0
SentFault p n fault.NotSent = length p.session.output < n
SentFault p n _ = ⊥

-- a session joined, and is the next one that the engine hosts
pub record OpenGives (v : CoreView) (hosted : List HostedSession) (session : ℕ) (w : CoreView)
    (hosted' : List HostedSession) : Type 0 where
  pub opened : session ≡ v.joins + 1
  pub core : Joins v w
  pub added : hosted' ≡ hosted ++ record {
    session = new_session;
    place = state.Resting (record { session = v.joins + 1; call = None; begun = 0 });
    closed = false;
  } ∷ []

-- A turn may run out of memory when it reads a packet, or writes a reply longer than its room.
abbrev pub MayRefuseTurn : HostedState → Type 0
MayRefuseTurn (state.Resting lane) = Unit {0}
MayRefuseTurn (state.UnderWay lane) = ⊥
MayRefuseTurn (state.Decided lane a) = (id : ℕ)
    → reply_room < length (packet (reply_body id a.reply))
MayRefuseTurn (state.Gone cause) = ⊥

-- the condition for turns
pub record IsReady (a : Stand) : Type 0 where
  pub history : List Record
  pub is_history : IsHistory a.core history
  pub placed : IsHostedState a.core a.session a.place
  pub waits : is_busy a.place ≡ true → IsSome a.session.waiting

-- a turn of a session
abbrev pub TurnGives : Stand → Finding → Happened → Stand → Type 0
TurnGives a f r b = AddsRecords a.core b.core (λ h added. PlaceGives a h f r added b)

-- the next packet needs no call
abbrev pub OtherGives : Stand → Happened → Stand → Type 0
OtherGives a r b = ((m : ℕ) → TurnGives a (finding false m) r b) × (r ≢ happened.Begun)

-- Turns: a number of them after which the call goes on, and a last one with this result. A refused
-- turn changes nothing.
unfoldable pub TurnsGive : ℕ → Stand → Finding → Result Happened EngineFault → Stand → Type 0
TurnsGive zero a f (Ok r) b = TurnGives a f r b
TurnsGive zero a f (Err e) b = (b ≡ a) × (e ≡ fault.OutOfMemory) × MayRefuseTurn a.place
TurnsGive (suc n) a f r b = (h : Happened) × (mid : Stand) × (continues (Ok h) ≡ true)
    × TurnGives a f h mid × TurnsGive n mid f r b

-- turns until the call does not go on, unless very many were made
pub record GoesFar (a : Stand) (f : Finding) (r : Result Happened EngineFault)
    (b : Stand) : Type 0 where
  pub turns : ℕ
  pub give : TurnsGive turns a f r b
  pub far : continues r ≡ true → 2 ^ 64 - 2 ≤ turns
