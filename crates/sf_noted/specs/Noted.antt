-- A core, and what is noted of its sessions.
use Rattle.std.specs.Prelude.{◌≡◌, ◌<◌, ◌+◌, ◌-◌, ◌^◌, ℕ, min, List, [], ◌∷◌, ◌++◌, length, Option, Some, None, slice_get}
use Rattle.std.specs.List.{sum_by}
use Rattle.sf_reply.specs.declared.reply.Reply.{Reply}
use Rattle.sf_call.specs.declared.call.Call.{Call}
use Rattle.sf_call.specs.declared.record.Record.{Record}
use Rattle.sf_core.specs.declared.step.Step.{Step}
use Rattle.sf_core.specs.declared.step.Step.TheVariants.{Moved, Blocked, Answered, Stranger}
use Rattle.sf_core.specs.Lanes.{LaneView}
use Rattle.sf_core.specs.Cores.{CoreView, LaneState, lane_state}
use Rattle.sf_core.specs.Cores.LaneState.{NoLane, Idle, Busy}
use Rattle.sf_core.specs.Progress.{waiting_reply}
use Rattle.sf_core.specs.Histories.{IsHistory}
use Rattle.sf_audit.specs.Audits.{CallRecord, call_records}
use Rattle.sf_noted.specs.Pages.{BegunCall, begun_call, Page, page_calls}
use Rattle.sf_noted.specs.PageChanges.{page, as_told}

-- a call with its reply, as a session is told
abbrev pub told_of : Call → Reply → CallRecord
told_of c given = record { number = c.number; request = c.request; reply = given }

-- the reply that waits for a session, as it will be told
abbrev pub waiting_for : Call → Option Reply → List CallRecord
waiting_for c None = []
waiting_for c (Some given) = told_of c given ∷ []

abbrev pub waits_in : LaneState Call → List CallRecord
waits_in NoLane = []
waits_in Idle = []
waits_in (Busy c) = waiting_for c (waiting_reply c)

-- the state of a session's lane, as it is noted
abbrev pub noted_state : LaneState Call → LaneState BegunCall
noted_state NoLane = NoLane
noted_state Idle = Idle
noted_state (Busy c) = Busy (begun_call c.number c.moment c.request)

-- The session stands as it is noted; and its calls in the history are those that it was told, and
-- then the one whose reply waits for it, if one does.
pub record FitsPage (v : CoreView) (h : List Record) (s : ℕ) (p : Page) : Type 0 where
  pub state : noted_state (lane_state v s) ≡ p.state
  pub told : call_records s h ≡ p.told ++ waits_in (lane_state v s)

-- So each session fits its page. Sessions have the numbers from 1 on: no call is of number 0 or of
-- a later session. All pages together have as many calls as the core began.
pub record PagesAgree (v : CoreView) (pages : List Page) (h : List Record) : Type 0 where
  pub history : IsHistory v h
  pub joins : length pages ≡ v.joins
  pub each : (place : ℕ) (p : Page) → slice_get pages place ≡ Some p → FitsPage v h (place + 1) p
  pub later : (s : ℕ) → v.joins < s → call_records s h ≡ []
  pub nobody : (p : Page) × FitsPage v h 0 p × (page_calls p ≡ 0)
  pub calls : sum_by page_calls pages ≡ v.drawn

-- the number of the call under way
abbrev pub number_in : LaneState BegunCall → Option ℕ
number_in (Busy call) = Some call.number
number_in _ = None

-- how many calls a session began that was told so many, as its lane counts them
abbrev pub begun_beside : LaneState BegunCall → ℕ → ℕ
begun_beside (Busy call) told = min (told + 1) (2 ^ 64 - 1)
begun_beside _ told = min told (2 ^ 64 - 1)

abbrev pub begun_on : Page → ℕ
begun_on p = begun_beside p.state (length p.told)

-- the place in the core of the session of this number, whose page this is
abbrev pub lane_of : ℕ × Page → LaneView
lane_of x = record { session = x.0; call = number_in x.1.state; begun = begun_on x.1 }

-- a session's number, and what is noted of it once its call is answered so
abbrev pub page_answered : ℕ × Page → Reply → ℕ × Page
page_answered x reply = (x.0, page Idle (x.1.told ++ as_told x.1.state reply))

-- What a step tells: the call goes on, or was answered, and that is noted. A session is never a
-- stranger to the core that it joined.
abbrev pub StepTells : ℕ × Page → Step → ℕ × Page → Type 0
StepTells old Moved new = new ≡ old
StepTells old (Blocked holder) new = new ≡ old
StepTells old (Answered given) new = (given.session ≡ old.0)
    × (number_in old.1.state ≡ Some given.number) × (new ≡ page_answered old given.reply)
StepTells old Stranger new = ⊥
