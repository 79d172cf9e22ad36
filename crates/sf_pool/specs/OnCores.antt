-- What the events of a session's lane do to its core, and how a lane ends.
use Rattle.std.specs.Prelude.{◌≡◌, ◌⊎◌, ℕ, true, false, Result, Ok, Err}
use Rattle.sf_call.specs.declared.request.Request.{Request}
use Rattle.sf_call.specs.declared.fault.BeginFault.{BeginFault}
use Rattle.sf_call.specs.declared.fault.BeginFault.TheVariants.{OutOfMemory}
use Rattle.sf_call.specs.declared.fault.JoinFault.{JoinFault}
use Rattle.sf_core.specs.declared.fault.CoreFault.TheVariants.{Refused}
use Rattle.sf_core.specs.declared.step.Step.{Step}
use Rattle.sf_core.specs.declared.step.Step.TheVariants as step
use Rattle.sf_core.specs.Cores.{CoreView}
use Rattle.sf_core.specs.Events.{CallBegins, RefusesBegin, StepsOn}
use Rattle.sf_noted.specs.Pages.{Page, page_calls}
use Rattle.sf_noted.specs.Noted.{lane_of}
use Rattle.sf_pool.specs.declared.session_lane.StepResult.TheVariants.{Going, Answered}
use Rattle.sf_pool.specs.declared.transcript_lane.Stepped.{Stepped}
use Rattle.sf_pool.specs.SessionLanes.{JoinRefused, Joined, IsLastAnswer, SessionLaneView}

-- this is the number and the page of the lane's session
pub record IsPageOf (d : SessionLaneView) (x : ℕ × Page) : Type 0 where
  pub session : x.0 ≡ d.session
  pub place : Joined x.1.state ≡ d.place
  pub told : x.1.told ≡ d.calls

-- the result of a lane: the session's page, or why it never joined
abbrev pub IsVisitOf : SessionLaneView → Result (ℕ × Page) JoinFault → Type 0
IsVisitOf d (Ok x) = IsPageOf d x
IsVisitOf d (Err refusal) = d.place ≡ JoinRefused refusal

-- the number of calls that the session began
abbrev pub calls_begun_by : Result (ℕ × Page) JoinFault → ℕ
calls_begun_by (Ok x) = page_calls x.1
calls_begun_by (Err refusal) = 0

-- the session's call begins on the core
abbrev pub BeginsAt : SessionLaneView → CoreView → CoreView → Request → ℕ → Type 0
BeginsAt d v w request moment =
    (x : ℕ × Page) × IsPageOf d x × CallBegins v w (lane_of x) request moment

-- memory ran out, or the core refuses the session's call
abbrev pub RefusesAt : SessionLaneView → CoreView → BeginFault → Type 0
RefusesAt d v fault =
    (fault ≡ OutOfMemory) ⊎ ((x : ℕ × Page) × IsPageOf d x
    × RefusesBegin v (lane_of x) (Refused fault))

-- what a lane returns of a step: whether its call was answered, and whether it was blocked
abbrev pub TellsOf : Step → Stepped → SessionLaneView → Type 0
TellsOf step.Moved s d = (s.outcome ≡ Going) × (s.blocked ≡ false)
TellsOf (step.Blocked holder) s d = (s.outcome ≡ Going) × (s.blocked ≡ true)
TellsOf (step.Answered answer) s d =
    (s.outcome ≡ Answered) × (s.blocked ≡ false) × IsLastAnswer d.calls answer.number answer.reply
TellsOf step.Stranger s d = ⊥

-- the outcome of a step, with the lane and the core after it
pub record SteppedTo : Type 0 where
  pub stepped : Stepped
  pub lane : SessionLaneView
  pub core : CoreView

abbrev pub stepped_to : Stepped → SessionLaneView → CoreView → SteppedTo
stepped_to s d v = record { stepped = s; lane = d; core = v }

-- the session's call makes one step on the core
pub record StepsAt (d : SessionLaneView) (v : CoreView) (s : SteppedTo) : Type 0 where
  pub before : ℕ × Page
  pub after : ℕ × Page
  pub result : Step
  pub own : IsPageOf d before
  pub own_after : IsPageOf s.lane after
  pub steps : StepsOn v (lane_of before) result s.core (lane_of after)
  pub tells : TellsOf result s.stepped s.lane
