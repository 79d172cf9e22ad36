-- How a session is served whose calls a lane makes.
use Rattle.std.specs.Prelude.{◌≡◌, ◌+◌, ℕ, List, [], ◌∷◌, ◌++◌, map, Option, Result, Ok, Err}
use Rattle.std.specs.List.{flat_map}
use Rattle.std.specs.Io.KnownBytes.{Appends}
use Rattle.sf_call.specs.declared.request.Request.{Request}
use Rattle.sf_call.specs.declared.fault.BeginFault.{BeginFault}
use Rattle.sf_core.specs.Cores.LaneState.{Busy}
use Rattle.sf_session.specs.Responses.{Response, Version, Locally, ByCall, Refused}
use Rattle.sf_session.specs.SessionStates.{Phase, Resting, UnderWay, Decided, Gone, SessionState}
use Rattle.sf_call.specs.declared.record.Record.{Record}
use Rattle.sf_audit.specs.Audits.{CallRecord, call_records}
use Rattle.sf_roll.specs.Seen.{IsPrefixOf}
use Rattle.sf_noted.specs.Pages.{begun_call}
use Rattle.sf_pool.specs.declared.session_lane.Begin.{Begin}
use Rattle.sf_pool.specs.SessionLanes.{SessionLaneState, Joined, SessionLaneView, Notes, HasSeenCalls}

-- A lane, the calls that it was asked to begin and the timestamps of the clock, if they are known,
-- and the prefix of the core's history that the lane's token has.
pub record LaneScene : Type 0 where
  pub lane : SessionLaneView
  pub begins : Option (List Begin)
  pub moments : Option (List ℕ)
  pub seen : List Record

abbrev pub lane_scene : SessionLaneView → Option (List Begin) → Option (List ℕ) → List Record
    → LaneScene
lane_scene lane begins moments seen =
    record { lane = lane; begins = begins; moments = moments; seen = seen }

-- the answered call, unless it was refused
abbrev pub response_calls : Response → List CallRecord
response_calls Version = []
response_calls (Locally id reply) = []
response_calls (ByCall id number request reply) =
    record { number = number; request = request; reply = reply } ∷ []
response_calls (Refused id request refusal) = []

-- the call whose reply is pending
abbrev pub phase_calls : Phase → List CallRecord
phase_calls Resting = []
phase_calls (UnderWay id number moment request moves) = []
phase_calls (Decided id number request reply) =
    record { number = number; request = request; reply = reply } ∷ []
phase_calls (Gone cause) = []

-- the answered calls of a session
abbrev pub state_calls : SessionState → List CallRecord
state_calls t = flat_map response_calls t.answers ++ phase_calls t.phase

-- A call that a lane was asked to begin: its request, and its number or why it was refused.
pub record Attempt : Type 0 where
  pub request : Request
  pub outcome : Result ℕ BeginFault

abbrev pub attempt : Request → Result ℕ BeginFault → Attempt
attempt request outcome = record { request = request; outcome = outcome }

abbrev pub attempt_of : Begin → Attempt
attempt_of b = attempt b.request b.outcome

-- an answered call began, or was refused
abbrev pub answer_attempts : Response → List Attempt
answer_attempts Version = []
answer_attempts (Locally id reply) = []
answer_attempts (ByCall id number request reply) = attempt request (Ok number) ∷ []
answer_attempts (Refused id request refusal) = attempt request (Err refusal) ∷ []

-- a call without a reply, or with a pending one, began
abbrev pub phase_attempts : Phase → List Attempt
phase_attempts Resting = []
phase_attempts (UnderWay id number moment request moves) = attempt request (Ok number) ∷ []
phase_attempts (Decided id number request reply) = attempt request (Ok number) ∷ []
phase_attempts (Gone cause) = []

-- the calls that a session asked for
abbrev pub attempts_told : SessionState → List Attempt
attempts_told t = flat_map answer_attempts t.answers ++ phase_attempts t.phase

-- The lane was asked to begin exactly these calls, each at the clock's timestamp.
abbrev pub BeginsCalls : Option (List ℕ) → Option (List ℕ) → Option (List Begin)
    → Option (List Begin)
    → List Attempt → Type 0
BeginsCalls moments moments' begins begins' attempts =
    (more : List Begin) × Notes begins begins' more
    × Appends moments moments' (map (λ b. b.moment) more) × (map attempt_of more ≡ attempts)

-- The calls of a session are after the prefix `before` and within the prefix `after`. There they
-- are exactly its answered calls.
pub record IsSessionBetween (before after : List Record) (lane : SessionLaneView) : Type 0 where
  pub further : IsPrefixOf before after
  pub behind : call_records lane.session before ≡ []
  pub within : HasSeenCalls after lane

-- Since the start: the lane has noted exactly the answered calls of the session. It was asked to
-- begin exactly those that the session requested, each at its timestamp. They are after the first
-- prefix and within the present one.
pub record NotesCalls (start now : LaneScene) (t : SessionState) : Type 0 where
  pub noted : now.lane.calls ≡ state_calls t
  pub keeps : now.lane.keeps ≡ start.lane.keeps
  pub asked : BeginsCalls start.moments now.moments start.begins now.begins (attempts_told t)
  pub stands : IsSessionBetween start.seen now.seen now.lane

-- no other reply is pending when such a session receives one
abbrev pub lane_held : ℕ
lane_held = 0

-- A call is under way, and its session waits for it.
pub record IsInCall (place : SessionLaneState) (phase : Phase) : Type 0 where
  pub id : ℕ
  pub number : ℕ
  pub moment : ℕ
  pub request : Request
  pub moves : ℕ
  pub placed : place ≡ Joined (Busy (begun_call number moment request))
  pub waits : phase ≡ UnderWay id number moment request moves
