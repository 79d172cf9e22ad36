-- Exit statuses, the lines of standard error, and how the session of `stdio` ends.
use Rattle.std.specs.Prelude.{◌≡◌, ◌⊎◌, ℕ, List, [], ◌∷◌, ◌++◌, Some, Result, Ok, Err, codes}
use Rattle.sf_session.specs.declared.cause.Cause.{Cause}
use Rattle.sf_session.specs.declared.cause.Cause.TheVariants.{NotInit, OldVersion, SecondInit, ZeroLength, TooLong, NoId, Closed}
use Rattle.sf_session.specs.Causes.{words_of}
use Rattle.sf_session.specs.declared.fault.ServeFault.{ServeFault}
use Rattle.sf_session.specs.declared.fault.ServeFault.TheVariants as fault
use Rattle.sf_engine.specs.Views.{EngineView}
use Rattle.sf_engine.specs.HasLog.{HasLog}
use Rattle.sf_alone.specs.OnEngine.{IoState, ServesLine, StopsEarly}

-- the end of the input is no fault
abbrev pub status_of_cause : Cause → ℕ
status_of_cause Closed = 0
status_of_cause NotInit = 1
status_of_cause OldVersion = 1
status_of_cause SecondInit = 1
status_of_cause ZeroLength = 1
status_of_cause TooLong = 1
status_of_cause NoId = 1

abbrev pub exit_status : Result Cause ServeFault → ℕ
exit_status (Ok cause) = status_of_cause cause
exit_status (Err fault) = 1

-- the line of a session that ended early
abbrev pub ending_line : Cause → List ℕ
ending_line cause = codes "sftpd: session ended: " ++ (words_of cause ++ 10 ∷ [])

abbrev pub line_of_cause : Cause → List ℕ
line_of_cause Closed = []
line_of_cause NotInit = ending_line NotInit
line_of_cause OldVersion = ending_line OldVersion
line_of_cause SecondInit = ending_line SecondInit
line_of_cause ZeroLength = ending_line ZeroLength
line_of_cause TooLong = ending_line TooLong
line_of_cause NoId = ending_line NoId

-- the message of the end of a session: none at the end of the input
abbrev pub status_line : Result Cause ServeFault → List ℕ
status_line (Ok cause) = line_of_cause cause
status_line (Err fault.OutOfMemory) = codes "sftpd: out of memory" ++ 10 ∷ []
status_line (Err fault.Line) = codes "sftpd: stream: standard input or output failed" ++ 10 ∷ []
status_line (Err fault.Sessions) = codes "sftpd: stream" ++ 10 ∷ []
status_line (Err fault.NumbersSpent) = codes "sftpd: stream" ++ 10 ∷ []

-- the outcome of serving a stream on an engine
abbrev pub ServingComesTo : (start now : IoState) → Result Cause ServeFault → Type 0
ServingComesTo start now (Ok cause) = ServesLine start now cause
ServingComesTo start now (Err fault) = StopsEarly start now fault

-- Memory ran out for an engine, and nothing was read or written; or a stream was served on a new
-- engine that keeps `keep` records, with this outcome.
abbrev pub SessionEnds : (keep : ℕ) → (start now : EngineView → IoState)
    → Result Cause ServeFault → Type 0
SessionEnds keep start now outcome =
    ((outcome ≡ Err fault.OutOfMemory) × ((e : EngineView) → now e ≡ start e))
    ⊎ ((first last : EngineView) × HasLog first [] × (first.core.keep ≡ Some keep)
    × ServingComesTo (start first) (now last) outcome)
