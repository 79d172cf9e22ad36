-- The progress of one session over a stream, with any backend.
use Rattle.std.specs.Prelude.{◌≡◌, ◌≢◌, ◌≤◌, ◌⊎◌, ℕ, List, [], length, Option}
use Rattle.std.specs.Io.KnownBytes.{IsAtEnd}
use Rattle.sf_line.specs.Lines.{Rose}
use Rattle.sf_session.specs.declared.cause.Cause.{Cause}
use Rattle.sf_session.specs.declared.cause.Cause.TheVariants.{Closed}
use Rattle.sf_session.specs.declared.fault.ServeFault.{ServeFault}
use Rattle.sf_session.specs.declared.fault.ServeFault.TheVariants as fault
use Rattle.sf_session.specs.SessionStates.{SessionState, TakesNone}
use Rattle.sf_connection.specs.Ends.{IsWhole}
use Rattle.sf_connection.specs.Hosts.{HasSent, most_counted}

-- a session's state, the bytes read but not yet fed to it, and the bytes written
pub record Progress : Type 0 where
  pub state : SessionState
  pub unfed : List ℕ
  pub written : List ℕ

abbrev pub progress : SessionState → List ℕ → List ℕ → Progress
progress state unfed written = record { state = state; unfed = unfed; written = written }

-- the backend records all written bytes as sent
abbrev pub IsInStep : Progress → Type 0
IsInStep p = p.written ≡ p.state.sent

-- It was served to its end: it ended for this cause, and its whole transcript was written.
pub record IsServed (incoming : Option (List ℕ)) (cause : Cause) (p : Progress) : Type 0 where
  pub fed : p.unfed ≡ []
  pub whole : IsWhole p.state cause
  pub sent : HasSent p.state
  pub in_step : IsInStep p
  pub at_end : cause ≡ Closed → IsAtEnd incoming

-- all replies were written
abbrev pub HasWritten : Progress → Type 0
HasWritten p = HasSent p.state × IsInStep p

-- what was written if serving stops with this error: everything, unless the stream failed
abbrev pub HasWrittenFor : ServeFault → Progress → Type 0
HasWrittenFor f p = f ≢ fault.Line → HasWritten p

-- `NumbersSpent` occurs only if this many bytes were read, or the backend did as much work
abbrev pub IsSpentFor : ServeFault → (work : ℕ) → Progress → Type 0
IsSpentFor fault.NumbersSpent work p =
    (most_counted ≤ length p.state.stream) ⊎ (most_counted ≤ work)
IsSpentFor _ work p = Unit {0}

-- Serving has stopped: the session accepts no more input.
pub record IsStopped (f : ServeFault) (work : ℕ) (p : Progress) : Type 0 where
  pub written : HasWrittenFor f p
  pub spent : IsSpentFor f work p
  pub closed : TakesNone p.state

-- why serving stops: the stream failed, or the backend returned the error
abbrev pub IsStop : ServeFault → (failed failed' : ℕ) → Type 0
IsStop fault.Line failed failed' = Rose failed failed'
IsStop fault.OutOfMemory failed failed' = Unit {0}
IsStop fault.Sessions failed failed' = ⊥
IsStop fault.NumbersSpent failed failed' = Unit {0}
