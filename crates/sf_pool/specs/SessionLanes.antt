-- The state of a session's lane, and its events.
use Rattle.std.specs.Prelude.{◌≡◌, ◌+◌, ◌-◌, ◌^◌, ℕ, min, List, [], ◌∷◌, ◌++◌, Bool, Option, Some, None}
use Rattle.sf_reply.specs.declared.reply.Reply.{Reply}
use Rattle.sf_call.specs.declared.request.Request.{Request}
use Rattle.sf_call.specs.declared.record.Record.{Record}
use Rattle.sf_call.specs.declared.fault.JoinFault.{JoinFault}
use Rattle.sf_core.specs.Cores.{LaneState}
use Rattle.sf_core.specs.Cores.LaneState.{Idle}
use Rattle.sf_audit.specs.Audits.{CallRecord, call_records}
use Rattle.sf_roll.specs.Seen.{IsPrefixOf}
use Rattle.sf_noted.specs.Pages.{BegunCall}
use Rattle.sf_noted.specs.PageChanges.{as_told, IsUnderWay}
use Rattle.sf_pool.specs.declared.session_lane.StepResult.{StepResult}
use Rattle.sf_pool.specs.declared.session_lane.StepResult.TheVariants.{Going, Answered}

-- it hasn't joined, it was refused, or it has joined
pub data SessionLaneState : Type 0 where
  New : SessionLaneState
  JoinRefused : (fault : JoinFault) → SessionLaneState
  Joined : (state : LaneState BegunCall) → SessionLaneState

abbrev pub IsResting : SessionLaneState → Type 0
IsResting place = place ≡ Joined Idle

abbrev pub HasCallUnderWay : SessionLaneState → Type 0
HasCallUnderWay (Joined state) = IsUnderWay state
HasCallUnderWay _ = ⊥

-- the last call has this reply
abbrev pub IsLastAnswer : List CallRecord → ℕ → Reply → Type 0
IsLastAnswer calls number reply = (earlier : List CallRecord) × (request : Request)
    × (calls ≡ earlier ++ record { number = number; request = request; reply = reply } ∷ [])

-- the last of the calls is this
abbrev pub IsLast : List CallRecord → CallRecord → Type 0
IsLast calls call = (earlier : List CallRecord) × (calls ≡ earlier ++ call ∷ [])

-- a known list continues with these
abbrev pub Notes : {T : Type 0} → Option (List T) → Option (List T) → List T → Type 0
Notes None new more = Unit {0}
Notes (Some old) None more = ⊥
Notes (Some old) (Some new) more = new ≡ old ++ more

-- the next count, up to 2^64 - 1
abbrev pub next_count : ℕ → ℕ
next_count n = min (n + 1) (2 ^ 64 - 1)

-- The number of a lane's session, 0 before it joins. Its state. Its answered calls, in order, and
-- whether the lane retains them all. The number of steps made.
pub record SessionLaneView : Type 0 where
  pub session : ℕ
  pub place : SessionLaneState
  pub calls : List CallRecord
  pub keeps : Bool
  pub steps : ℕ

-- a lane that has not joined
abbrev pub new_session_lane : Bool → SessionLaneView
new_session_lane keeps = record { session = 0; place = New; calls = []; keeps = keeps; steps = 0 }

-- one more step
abbrev pub stepped : SessionLaneView → SessionLaneView
stepped d = record d { steps = next_count d.steps }

-- the call under way received this reply
abbrev pub told_at : SessionLaneState → Reply → List CallRecord
told_at (Joined state) reply = as_told state reply
told_at _ reply = []

abbrev pub session_answered : SessionLaneView → Reply → SessionLaneView
session_answered d reply =
    record d { place = Joined Idle; calls = d.calls ++ told_at d.place reply }

-- The outcome of a step: the call has no reply yet, or it is answered, and noted.
abbrev pub Steps : SessionLaneView → StepResult → SessionLaneView → Type 0
Steps before Going after = after ≡ stepped before
Steps before Answered after = (reply : Reply) × (after ≡ stepped (session_answered before reply))

-- the session's calls in the prefix are exactly its answered calls
abbrev pub HasSeenCalls : List Record → SessionLaneView → Type 0
HasSeenCalls seen d = call_records d.session seen ≡ d.calls

-- The prefix grows. If it had exactly the session's answered calls, it has them still.
pub record SeesOn (seen : List Record) (d : SessionLaneView) (seen' : List Record)
    (d' : SessionLaneView) : Type 0 where
  pub further : IsPrefixOf seen seen'
  pub session : d'.session ≡ d.session
  pub own : HasSeenCalls seen d → HasSeenCalls seen' d'
