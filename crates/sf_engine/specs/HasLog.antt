-- An engine has a log: its core has the log's history, and each hosted session the state that its
-- part of the log requires.
use Rattle.std.specs.Prelude.{◌≡◌, ◌≢◌, ◌<◌, ◌≤◌, ◌+◌, ◌-◌, ◌^◌, ◌⊎◌, ◌↔◌, IsTrue, ℕ, List, [], ◌∷◌, ◌++◌, length, map, fold, Bool, true, false, Option, Some, None, slice_get, Result, Ok, Err}
use Rattle.std.specs.List.{AllByRecursion, AllZip, flat_map, sum_by}
use Rattle.std.specs.Result.{IsOk}
use Rattle.sf_reply.specs.declared.reply.Reply.{Reply}
use Rattle.sf_call.specs.declared.request.Request.{Request}
use Rattle.sf_call.specs.declared.fault.JoinFault.{JoinFault}
use Rattle.sf_call.specs.declared.fault.JoinFault.TheVariants as join
use Rattle.sf_call.specs.declared.call.Call.{Call}
use Rattle.sf_call.specs.declared.call.Stage.{Stage}
use Rattle.sf_call.specs.declared.call.Stage.TheVariants as stage
use Rattle.sf_call.specs.Answers.{AnswerView}
use Rattle.sf_session.specs.declared.cause.Cause.{Cause}
use Rattle.sf_session.specs.declared.cause.Cause.TheVariants.{Closed}
use Rattle.sf_session.specs.Sessions.{SessionView, EndsBy}
use Rattle.sf_session.specs.Responses.{has_begun, RepliedCall, recorded_in, answered_in, Due, NothingDue, Unrecorded, Recorded}
use Rattle.sf_core.specs.Lanes.{LaneView}
use Rattle.sf_core.specs.Cores.LaneState.{NoLane, Idle, Busy}
use Rattle.sf_core.specs.Cores.{CoreView, LaneState, lane_state, joined}
use Rattle.sf_core.specs.Histories.{IsHistory}
use Rattle.sf_core.specs.Progress.{left_of, bound_of, waiting_reply, IsCopying, IsBehind}
use Rattle.sf_core.specs.Stuck.{left_below}
use Rattle.sf_engine.specs.declared.event.Event.{Event}
use Rattle.sf_engine.specs.declared.event.Event.TheVariants.{Turn}
use Rattle.sf_engine.specs.declared.event.Happened.{Happened}
use Rattle.sf_engine.specs.declared.event.Happened.TheVariants as happened
use Rattle.sf_engine.specs.declared.event.EngineFault.{EngineFault}
use Rattle.sf_engine.specs.declared.event.EngineFault.TheVariants as fault
use Rattle.sf_engine.specs.declared.hosted.HostedSession.{HostedSession}
use Rattle.sf_engine.specs.declared.hosted.HostedState.{HostedState}
use Rattle.sf_engine.specs.declared.hosted.HostedState.TheVariants as state
use Rattle.sf_engine.specs.Views.{EngineView}
use Rattle.sf_engine.specs.Promise.{Entry, event_of, result_of, added_by, linearization, opened_in, left_in, begun_in, CallLog, SessionLog, new_log, of_session, IsKnown, IsAnswered, IsUnsent, IsKept, blocked_by, AreNeverAllBlocked, refusals, continues, AreTurnsOf, under_way, AreRounds, IsDueTo, most_steps, WaitsForBytes}
use Rattle.sf_engine.specs.Steady.{IsSteady}
use Rattle.sf_engine.specs.Works.{IsStep, IsWork}

-- ---- one session

-- the call is undecided, or copies
abbrev pub IsUnfinished : Call → Type 0
IsUnfinished c = (waiting_reply c ≡ None) ⊎ IsCopying c.stage

-- The moves of such a call. The first one takes the root, and each further one resolves a
-- component, those up to a rename's common directory for both its paths. A WRITE that copies has
-- made its first move.
abbrev pub HasMoved : Stage → ℕ → Type 0
HasMoved stage.Fresh moves = moves ≡ 0
HasMoved (stage.At walked node) moves = moves ≡ walked + 1
HasMoved (stage.Ends common old new) moves = moves + common.walked ≡ old.walked + new.walked + 1
HasMoved (stage.Copies node blocks) moves = 0 < moves

abbrev pub replied : ℕ → Request → Reply → RepliedCall
replied number request reply = record { number = number; request = request; reply = reply }

-- the parts of a session's state, and of its part of the log, that its place depends on
pub record Seat : Type 0 where
  pub slot : LaneState Call
  pub session : ℕ
  pub waiting : Option ℕ
  pub ended : Option Cause
  pub due : Due
  pub call : CallLog
  pub calls : List RepliedCall

pub record AtRest (lane : LaneView) (k : Seat) : Type 0 where
  pub session : lane.session ≡ k.session
  pub idle : lane.call ≡ None
  pub slot : k.slot ≡ Idle
  pub waiting : k.waiting ≡ None
  pub ended : k.ended ≡ None
  pub due : k.due ≡ NothingDue

pub record IsGoing (lane : LaneView) (k : Seat) : Type 0 where
  pub call : Call
  pub id : ℕ
  pub session : lane.session ≡ k.session
  pub number : lane.call ≡ Some call.number
  pub slot : k.slot ≡ Busy call
  pub owner : call.session ≡ k.session
  pub known : (call.number ≡ k.call.number) × (call.moment ≡ k.call.moment)
  pub few : k.call.moves + left_of call ≤ bound_of call.request
  pub walked : IsUnfinished call → HasMoved call.stage k.call.moves
  pub waiting : k.waiting ≡ Some id
  pub ended : k.ended ≡ None
  pub new : AllByRecursion (λ c. c.number ≢ call.number) k.calls
  pub undecided : k.call.decided ≡ false
  pub due : (k.due ≡ Unrecorded id call.request)
      ⊎ ((reply : Reply) × (k.due ≡ Recorded id (replied call.number call.request reply)))

pub record HasAnswer (lane : LaneView) (a : AnswerView) (k : Seat) : Type 0 where
  pub id : ℕ
  pub number : ℕ
  pub request : Request
  pub session : lane.session ≡ k.session
  pub idle : lane.call ≡ None
  pub slot : k.slot ≡ Idle
  pub waiting : k.waiting ≡ Some id
  pub ended : k.ended ≡ None
  pub due : k.due ≡ Recorded id (replied number request a.reply)
  pub decided : k.call.decided ≡ true

pub record IsAway (c : Cause) (k : Seat) : Type 0 where
  pub slot : k.slot ≡ NoLane
  pub ended : k.ended ≡ Some c
  pub due : k.due ≡ NothingDue

abbrev pub IsAtPlace : HostedState → Bool → Seat → Type 0
IsAtPlace (state.Resting lane) closed k = AtRest lane k × (closed ≡ false)
IsAtPlace (state.UnderWay lane) closed k = IsGoing lane k
IsAtPlace (state.Decided lane a) closed k = HasAnswer lane a k
IsAtPlace (state.Gone c) closed k = IsAway c k

abbrev pub seat : LaneState Call → ℕ → SessionView → Due → SessionLog → Seat
seat slot s x due t = record {
  slot = slot;
  session = s;
  waiting = x.waiting;
  ended = x.ended;
  due = due;
  call = t.call;
  calls = answered_in t.wrote;
}

-- why a session ends
abbrev pub IsWhy : Cause → Bool → List (List ℕ) → List ℕ → Type 0
IsWhy c closed bodies rest = ((c ≡ Closed) × (closed ≡ true)) ⊎ EndsBy (has_begun bodies) rest c

-- a session that has ended has left; until then the bytes that are not read yet are `unread`
abbrev pub IsOpenOrGone : Option Cause → (left closed : Bool) → List (List ℕ)
    → (rest unread : List ℕ) → Type 0
IsOpenOrGone None left closed bodies rest unread = (left ≡ false) × (rest ≡ unread)
IsOpenOrGone (Some c) left closed bodies rest unread = (left ≡ true) × IsWhy c closed bodies rest

-- the state of a hosted session, by its part of the log and its records
pub record Hosts (t : SessionLog) (recorded : List RepliedCall) (slot : LaneState Call) (s : ℕ)
    (p : HostedSession) : Type 0 where
  pub answered : IsAnswered t recorded
  pub output : IsUnsent t.wrote t.sent p.session.output
  pub begun : p.session.begun ≡ has_begun answered.bodies
  pub open_or_gone : IsOpenOrGone p.session.ended t.left t.closed answered.bodies answered.rest
      p.session.unread
  pub closed : t.left ≡ false → p.closed ≡ t.closed
  pub at : IsAtPlace p.place p.closed (seat slot s p.session answered.due t)

-- ---- all sessions

-- the log has nothing of a session that never opened
pub record IsNobody (e : EngineView) (log : List Entry) (s : ℕ) : Type 0 where
  pub slot : lane_state e.core s ≡ NoLane
  pub none : of_session s log ≡ new_log
  pub recorded : recorded_in s (linearization log) ≡ []

-- 1, if a hosted session has not left
abbrev pub here_at : HostedState → ℕ
here_at (state.Gone c) = 0
here_at _ = 1

abbrev pub here_of : HostedSession → ℕ
here_of p = here_at p.place

-- the session's call is behind another call
pub record IsBehindOther (v : CoreView) (c : Call) : Type 0 where
  pub other : ℕ
  pub call : Call
  pub slot : lane_state v other ≡ Busy call
  pub deeper : IsBehind c call

-- the sessions whose calls were blocked since the last step
abbrev pub blocked_in : List Entry → List ℕ
blocked_in log = fold blocked_by [] log

abbrev pub IsHeldUp : CoreView → ℕ → Type 0
IsHeldUp v s = (c : Call) × (lane_state v s ≡ Busy c) × IsBehindOther v c

pub record HasLog (e : EngineView) (log : List Entry) : Type 0 where
  pub history : IsHistory e.core (linearization log)
  pub kept : IsKept log
  pub begun : e.core.drawn ≡ begun_in log
  pub opened : e.core.joins ≡ opened_in log
  pub here : joined e.core + left_in log ≡ opened_in log
  pub count : length e.hosted ≡ opened_in log
  pub each : (i : ℕ) (p : HostedSession) → slice_get e.hosted i ≡ Some p
      → Hosts (of_session (i + 1) log) (recorded_in (i + 1) (linearization log))
      (lane_state e.core (i + 1)) (i + 1) p
  pub nobody : (s : ℕ) → (0 < s) → opened_in log < s → IsNobody e log s
  pub zero : lane_state e.core 0 ≡ NoLane
  pub present : joined e.core ≡ sum_by here_of e.hosted
  pub blocked : AllByRecursion (IsHeldUp e.core) (blocked_in log)

-- an engine has the log, and not all its running calls were blocked since the last step
abbrev pub HasPromise : EngineView → List Entry → Type 0
HasPromise e log = HasLog e log × AreNeverAllBlocked log

-- an engine has a log
abbrev pub IsEngine : CoreView → List HostedSession → Type 0
IsEngine core hosted =
    (log : List Entry) × HasLog (record { core = core; hosted = hosted }) log

-- ---- contracts

abbrev pub engine_fault : JoinFault → EngineFault
engine_fault join.OutOfMemory = fault.OutOfMemory
engine_fault join.Sessions = fault.Sessions
engine_fault join.NumbersSpent = fault.NumbersSpent

-- the result of the event `Open`
abbrev pub open_result : Result ℕ JoinFault → Result Happened EngineFault
open_result (Ok session) = Ok (happened.Opened session)
open_result (Err f) = Err (engine_fault f)

-- Each log of the engine gets one more entry, of this event and result. The core has made the step
-- of the session's call, with no more work than it may take.
abbrev pub AppendsEntry : EngineView → Event → Result Happened EngineFault → EngineView → Type 0
AppendsEntry old ev result new = (log : List Entry) → HasLog old log → (x : Entry)
    × (event_of x ≡ ev) × (result_of x ≡ result) × HasLog new (log ++ x ∷ [])
    × IsSteady log x × IsStep ev result old.core (linearization log) (added_by x) new.core
    × IsWork ev old.core (added_by x) new.core

-- Each log gets these turns. After the last one the call is answered or blocked, unless very many
-- turns were made.
abbrev pub AppendsTurns : EngineView → ℕ → ℕ → Result Happened EngineFault → EngineView → Type 0
AppendsTurns old s m result new = (log : List Entry) → HasLog old log → (entries : List Entry)
    × AreTurnsOf s m result entries × HasLog new (log ++ entries)
    × (continues result ≡ true → 2 ^ 64 - 1 ≤ length entries)

-- each log gets these events; `refused` of them were refused
abbrev pub AppendsEvents : EngineView → List Event → ℕ → EngineView → Type 0
AppendsEvents old events refused new = (log : List Entry) → HasLog old log
    → (entries : List Entry) × (map event_of entries ≡ events)
    × (refused ≡ sum_by (λ x. refusals (result_of x)) entries) × HasLog new (log ++ entries)

-- a turn of the session at the moment 0, which is not refused
abbrev pub IsStepOf : ℕ → Entry → Type 0
IsStepOf s x = (event_of x ≡ Turn s 0) × IsOk (result_of x)

abbrev pub is_some_list : List ℕ → Bool
is_some_list [] = false
is_some_list (s ∷ sessions) = true

-- each log gets one round; `any` says whether it has a turn
abbrev pub AppendsRound : EngineView → Bool → EngineView → Type 0
AppendsRound old any new = (log : List Entry) → HasLog old log → (entries : List Entry)
    × AllZip IsStepOf (under_way log) entries × HasLog new (log ++ entries)
    × (any ≡ is_some_list (under_way log))

-- each log gets `count` rounds
abbrev pub AppendsRounds : EngineView → ℕ → EngineView → Type 0
AppendsRounds old count new = (log : List Entry) → HasLog old log
    → (rounds : List (List Entry)) × (length rounds ≡ count) × AreRounds log rounds
    × HasLog new (log ++ flat_map (λ r. r) rounds)

-- no call is running
abbrev pub AreDecided : EngineView → Type 0
AreDecided e = (log : List Entry) → HasLog e log → under_way log ≡ []

-- the steps that are left to the calls of an engine
abbrev pub left_to : EngineView → ℕ
left_to e = left_below e.core (length e.hosted + 1)

-- at most the steps of all running calls together
abbrev pub IsWithinBounds : ℕ → EngineView → Type 0
IsWithinBounds n e = (log : List Entry) → HasLog e log → (requests : List Request)
    × AllZip (IsDueTo log) (under_way log) requests × (n ≤ sum_by most_steps requests)

-- the bytes to send to a session
abbrev pub ShowsOutput : EngineView → ℕ → List ℕ → Type 0
ShowsOutput e s output = (log : List Entry) → HasLog e log → IsKnown log s
    × IsUnsent (of_session s log).wrote (of_session s log).sent output

abbrev pub IsNoSession : EngineView → ℕ → Type 0
IsNoSession e s = (log : List Entry) → HasLog e log → ¬ IsKnown log s

abbrev pub WantsBytes : EngineView → ℕ → Bool → Type 0
WantsBytes e s wants =
    (log : List Entry) → HasLog e log → IsTrue wants ↔ WaitsForBytes log s
