-- The sessions of a core, by all workers together.
use Rattle.std.specs.Prelude.{◌≡◌, ◌⊎◌, ℕ, List, [], map, Bool, Result, Ok, Err, if◌then◌else◌}
use Rattle.sf_session.specs.declared.cause.Cause.{Cause}
use Rattle.sf_session.specs.declared.fault.ServeFault.{ServeFault}
use Rattle.sf_call.specs.declared.record.Record.{Record}
use Rattle.sf_call.specs.Histories.{IsLegal}
use Rattle.sf_core.specs.Cores.LaneState.{NoLane}
use Rattle.sf_audit.specs.declared.transcript.Transcript.{Transcript}
use Rattle.sf_audit.specs.Audits.{CallRecord, call_record, call_records}
use Rattle.sf_noted.specs.Pages.{Page}
use Rattle.sf_noted.specs.Visits.{AreCallsOf}
use Rattle.sf_noted.specs.Seen.{HasSeen}
use Rattle.sf_connection.specs.Progress.{Progress, IsServed, IsStopped, IsStop}
use Rattle.sf_connection.specs.Streams.{StreamView}
use Rattle.sf_connection.specs.Connections.{HasPassed}
use Rattle.sf_pool.specs.SessionLanes.{Joined}
use Rattle.sf_pool.specs.Scenes.{state_calls, IsInCall}

-- a session's number and its calls with replies: on its page, and in a transcript
abbrev pub calls_on_page : ℕ × Page → ℕ × List CallRecord
calls_on_page x = (x.0, x.1.told)

abbrev pub calls_in_transcript : Transcript → ℕ × List CallRecord
calls_in_transcript t = (t.session, map call_record t.calls.items)

-- the calls in the transcripts of these sessions: all, if they are kept
abbrev pub kept_transcripts : Bool → List (ℕ × Page) → List (ℕ × List CallRecord)
kept_transcripts keeps visits = if keeps then map calls_on_page visits else []

-- How serving ended. If at the session's end, its whole transcript was written. If by this fault,
-- its replies were written, unless the stream failed.
abbrev pub EndsServing : Result Cause ServeFault → (from to : StreamView) → (steps : ℕ) → Progress
    → Type 0
EndsServing (Ok cause) from to steps p = IsServed to.incoming cause p
EndsServing (Err fault) from to steps p =
    IsStopped fault steps p × IsStop fault from.failed to.failed

-- A session was served over a stream, with this many steps of its calls. The calls among its
-- answers are those on its page. The output is the transcript of its answers, or a prefix. It has
-- left, or waits for the reply to a call under way.
pub record WasServed (x : ℕ × Page) (from to : StreamView) (steps : ℕ) : Type 0 where
  pub progress : Progress
  pub passed : HasPassed from to progress
  pub calls : x.1.told ≡ state_calls progress.state
  pub stands : (x.1.state ≡ NoLane) ⊎ IsInCall (Joined x.1.state) progress.state.phase
  pub outcome : Result Cause ServeFault
  pub ends : EndsServing outcome from to steps progress

-- A session's calls are after the prefix `before`, and within the prefix `after`. There they are
-- exactly those whose replies it received.
pub record IsVisitBetween (before after : List Record) (x : ℕ × Page) : Type 0 where
  pub behind : call_records x.0 before ≡ []
  pub within : HasSeen after x

-- the transcripts are those of these sessions, if they are kept
abbrev pub HasTranscripts : Bool → List (ℕ × Page) → List Transcript → Type 0
HasTranscripts keeps sessions transcripts =
    map calls_in_transcript transcripts ≡ kept_transcripts keeps sessions

-- A history is a linearization of these sessions' calls: it is legal, and it has exactly their
-- calls.
pub record IsLinearization (history : List Record) (sessions : List (ℕ × Page)) : Type 0 where
  pub legal : IsLegal history
  pub calls : AreCallsOf history sessions
