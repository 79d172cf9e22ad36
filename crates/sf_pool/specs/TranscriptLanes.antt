-- No public clause cites this module.
-- What is true between two events of a lane that notes what its session was told.
use Rattle.std.specs.Prelude.{◌≡◌, ◌≢◌, ◌<◌, ◌++◌, ℕ, Bool, true, List, [], map, Option, Some, None, Result, Ok, Err, vec_len}
use Rattle.std.specs.Vec.{vec_capacity}
use Rattle.sf_call.specs.declared.request.Request.{Request}
use Rattle.sf_call.specs.declared.fault.JoinFault.{JoinFault}
use Rattle.sf_core.specs.Cores.LaneState.{NoLane, Busy}
use Rattle.sf_audit.specs.declared.transcript.Transcript.{Transcript}
use Rattle.sf_audit.specs.Audits.{CallRecord, call_record}
use Rattle.sf_noted.specs.Pages.{Page}
use Rattle.sf_pool.specs.declared.transcript_lane.Place.{Place}
use Rattle.sf_pool.specs.declared.transcript_lane.Place.TheVariants as place
use Rattle.sf_pool.specs.SessionLanes.{SessionLaneState, New, JoinRefused, Joined, SessionLaneView}
use Rattle.sf_noted.specs.Pages.{page_calls}

-- the session's number and page, where it has a lane
abbrev pub lane_in : {B : Type 0} → Place B → Option (ℕ × Page)
lane_in (place.Joined lane) = Some lane
lane_in _ = None

-- it was asked to join
abbrev pub WasAsked : {B : Type 0} → Place B → Type 0
WasAsked place.New = ⊥
WasAsked _ = Unit {0}

-- what is noted of it at its end, or why it never joined
abbrev pub EndsAs : {B : Type 0} → Place B → Result (ℕ × Page) JoinFault → Type 0
EndsAs place.New ended = ⊥
EndsAs (place.Refused fault) ended = ended ≡ Err fault
EndsAs (place.Joined lane) ended = ended ≡ Ok lane
EndsAs (place.Left visit) ended = ended ≡ Ok visit

-- how many calls it began
abbrev pub calls_in : {B : Type 0} → Place B → ℕ
calls_in place.New = 0
calls_in (place.Refused fault) = 0
calls_in (place.Joined lane) = page_calls lane.1
calls_in (place.Left visit) = page_calls visit.1

-- what such a lane shows of a session that is there
abbrev pub session_lane_at : {B : Type 0} → Place B → Bool → ℕ → SessionLaneView
session_lane_at place.New keeps steps =
    record { session = 0; place = New; calls = []; keeps = keeps; steps = steps }
session_lane_at (place.Refused fault) keeps steps =
    record { session = 0; place = JoinRefused fault; calls = []; keeps = keeps; steps = steps }
session_lane_at (place.Joined lane) keeps steps = record {
  session = lane.0;
  place = Joined lane.1.state;
  calls = lane.1.told;
  keeps = keeps;
  steps = steps;
}
session_lane_at (place.Left visit) keeps steps = record {
  session = visit.0;
  place = Joined visit.1.state;
  calls = visit.1.told;
  keeps = keeps;
  steps = steps;
}

-- where it has left, that is noted
abbrev pub NotesLeaving : {B : Type 0} → Place B → Type 0
NotesLeaving (place.Left visit) = visit.1.state ≡ NoLane
NotesLeaving _ = Unit {0}

-- what the call under way asks for is at hand, and its answer has room
abbrev pub HasRoom : SessionLaneState → Option Request → Transcript → Type 0
HasRoom (Joined (Busy call)) asked t =
    (asked ≡ Some call.request) × (vec_len t.calls < vec_capacity t.calls)
HasRoom _ asked t = Unit {0}

-- The transcript is the session's. It has the last of the calls that the session was told, and one
-- at least if it was told any: all of them, if they are kept.
pub record IsTranscriptLane (d : SessionLaneView) (asked : Option Request) (t : Transcript)
    : Type 0 where
  pub session : t.session ≡ d.session
  pub earlier : List CallRecord
  pub whole : d.calls ≡ earlier ++ map call_record t.calls.items
  pub all : d.keeps ≡ true → earlier ≡ []
  pub last : d.calls ≢ [] → t.calls.items ≢ []
  pub room : HasRoom d.place asked t
