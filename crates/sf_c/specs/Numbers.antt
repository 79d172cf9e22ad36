-- The numbers that the library returns to C.
use Rattle.std.specs.Prelude.{◌≡◌, ◌<◌, ◌≤◌, ◌+◌, ◌⊎◌, ◌^◌, ◌++◌, Bool, true, false, ℕ, ℤ, pos, negsuc, List, [], length, Option, Some, None, Result, Ok, Err}
use Rattle.std.specs.List.{AllZip, flat_map, sum_by}
use Rattle.sf_call.specs.declared.record.Record.{Record}
use Rattle.sf_call.specs.declared.request.Request.{Request}
use Rattle.sf_session.specs.declared.cause.Cause.{Cause}
use Rattle.sf_session.specs.declared.cause.Cause.TheVariants as cause
use Rattle.sf_engine.specs.declared.event.Event.{Event}
use Rattle.sf_engine.specs.declared.event.Happened.{Happened}
use Rattle.sf_engine.specs.declared.event.Happened.TheVariants as happened
use Rattle.sf_engine.specs.declared.event.EngineFault.{EngineFault}
use Rattle.sf_engine.specs.declared.event.EngineFault.TheVariants as fault
use Rattle.sf_engine.specs.Promise.{Entry, linearization, under_way, AreRounds, IsDueTo, most_steps}
use Rattle.sf_engine.specs.HasLog.{AppendsEntry}
use Rattle.sf_engine.specs.Views.{EngineView}
use Rattle.sf_engine.specs.contracts.promise.EngineSftp.TheImpl.{ghosts}
use Rattle.sf_refusing.specs.declared.refusals.Refusals.{Refusals}
use Rattle.sf_refusing.specs.Refusing.{HasJournal}
use Rattle.sf_asking.specs.Logs.{EventLeads}

abbrev pub cause_number : Cause → ℕ
cause_number cause.NotInit = 1
cause_number cause.OldVersion = 2
cause_number cause.SecondInit = 3
cause_number cause.ZeroLength = 4
cause_number cause.TooLong = 5
cause_number cause.NoId = 6
cause_number cause.Closed = 7

-- The number of an error, negated, less one, as `negsuc` has it.
abbrev pub fault_number : EngineFault → ℕ
fault_number fault.OutOfMemory = 0
fault_number fault.NoSuchSession = 1
fault_number fault.Sessions = 2
fault_number fault.Ended = 3
fault_number fault.NumbersSpent = 4
fault_number fault.NotSent = 5

-- The number of a result. A session's number is always below 2^63.
abbrev pub IsHappened : Happened → ℤ → Type 0
IsHappened (happened.Opened session) n = session < 2 ^ 63 → n ≡ pos session
IsHappened happened.Fed n = n ≡ pos 0
IsHappened happened.Idle n = n ≡ pos 0
IsHappened happened.Wrote n = n ≡ pos 1
IsHappened happened.Begun n = n ≡ pos 2
IsHappened happened.Moved n = n ≡ pos 3
IsHappened (happened.Blocked call) n = n ≡ pos 4
IsHappened happened.Decided n = n ≡ pos 5
IsHappened (happened.Ended why) n = n ≡ pos (16 + cause_number why)
IsHappened happened.Closed n = n ≡ pos 0
IsHappened happened.Sent n = n ≡ pos 0

abbrev pub IsNumber : Result Happened EngineFault → ℤ → Type 0
IsNumber (Ok happened) n = IsHappened happened n
IsNumber (Err fault) n = n ≡ negsuc (fault_number fault)

-- An event changes an engine, and its result has this number. `AppendsEntry` says what the core
-- did.
abbrev pub LeadsToNumber : EngineView → Event → ℤ → EngineView → Type 0
LeadsToNumber old event n new = (result : Result Happened EngineFault)
    × EventLeads ghosts.has_log old event result new × AppendsEntry old event result new
    × IsNumber result n

-- the same for the engine that C holds
abbrev pub AnswersNumber : Option EngineView → Event → ℤ → Option EngineView → Type 0
AnswersNumber before event n after = (old : EngineView) × (new : EngineView) × (before ≡ Some old)
    × (after ≡ Some new) × LeadsToNumber old event n new

-- whether a turn with this result made progress, so that another one follows
abbrev pub leads_on : Result Happened EngineFault → Bool
leads_on (Ok happened.Wrote) = true
leads_on (Ok happened.Begun) = true
leads_on (Ok happened.Moved) = true
leads_on (Ok happened.Decided) = true
leads_on _ = false

-- the number of replies that it wrote
abbrev pub replies_of : Result Happened EngineFault → ℕ
replies_of (Ok happened.Wrote) = 1
replies_of _ = 0

-- An engine took this many rounds, at most as many as its calls have steps, and then no call is
-- running.
abbrev pub RunsRounds : ℕ → EngineView → EngineView → Type 0
RunsRounds count old new = ((log : List Entry) → ghosts.has_log old log
    → (rounds : List (List Entry)) × (length rounds ≡ count) × AreRounds log rounds
    × ghosts.has_log new (log ++ flat_map (λ r. r) rounds))
    × ((log : List Entry) → ghosts.has_log old log → (requests : List Request)
    × AllZip (IsDueTo log) (under_way log) requests × (count ≤ sum_by most_steps requests))
    × ((log : List Entry) → ghosts.has_log new log → under_way log ≡ [])

-- the same for the engine that C holds
abbrev pub RunsAll : Option EngineView → ℕ → Option EngineView → Type 0
RunsAll before count after = (old : EngineView) × (new : EngineView) × (before ≡ Some old)
    × (after ≡ Some new) × RunsRounds count old new

-- a new engine that retains `keep` records, or all for 0
abbrev pub IsFresh : ℕ → EngineView → Type 0
IsFresh keep engine = ghosts.has_log engine []
    × (keep ≡ 0 → engine.core.keep ≡ None)
    × (0 < keep → engine.core.keep ≡ Some keep)

-- a new engine was made, with refusals that have an empty journal; or memory ran out
abbrev pub IsNewEngine : ℕ → ℤ → Option EngineView → Option Refusals → Type 0
IsNewEngine keep n made rules = ((n ≡ negsuc 0) × (made ≡ None) × (rules ≡ None))
    ⊎ ((engine : EngineView) × (r : Refusals) × (n ≡ pos 0) × (made ≡ Some engine)
    × (rules ≡ Some r) × IsFresh keep engine × HasJournal r [])

-- the retained records are a suffix of the linearization of each log that the engine may have
abbrev pub KeepsLastRecords : EngineView → Type 0
KeepsLastRecords engine = (log : List Entry) → ghosts.has_log engine log
    → (gone : List Record) × (linearization log ≡ gone ++ engine.core.records)
