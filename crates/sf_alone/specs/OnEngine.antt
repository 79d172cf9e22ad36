-- A session of an engine, served over a stream.
use Rattle.std.specs.Prelude.{◌≡◌, ◌≢◌, ◌≤◌, ◌+◌, ◌⊎◌, ℕ, List, [], ◌∷◌, ◌++◌, length, Bool, true, false, Option, Result, Ok}
use Rattle.std.specs.Global.{Vec}
use Rattle.std.specs.List.{AllByRecursion}
use Rattle.std.specs.Io.KnownBytes.{Appends}
use Rattle.sf_line.specs.Lines.{Rose}
use Rattle.sf_session.specs.declared.cause.Cause.{Cause}
use Rattle.sf_session.specs.declared.fault.ServeFault.{ServeFault}
use Rattle.sf_session.specs.declared.fault.ServeFault.TheVariants as fault
use Rattle.sf_session.specs.Responses.{transcript, answered_in, most_calls}
use Rattle.sf_session.specs.SessionStates.{Phase, UnderWay, Decided, Gone, SessionState, TakesNone, pending}
use Rattle.sf_engine.specs.declared.event.Event.{Event}
use Rattle.sf_engine.specs.declared.event.Event.TheVariants as event
use Rattle.sf_engine.specs.declared.event.Happened.{Happened}
use Rattle.sf_engine.specs.declared.event.Happened.TheVariants as happened
use Rattle.sf_engine.specs.declared.event.EngineFault.{EngineFault}
use Rattle.sf_engine.specs.Views.{EngineView}
use Rattle.sf_engine.specs.Promise.{Entry, event_of, result_of, opened_in, left_in, CallLog, SessionLog, of_session, IsKnown, IsUnsent}
use Rattle.sf_engine.specs.HasLog.{HasLog, AppendsEntry, AppendsTurns}
use Rattle.sf_connection.specs.Hosts.{IsFront, most_counted}
use Rattle.sf_connection.specs.Progress.{Progress, HasWritten, IsServed}
use Rattle.sf_connection.specs.Streams.{StreamView, WaitsView}
use Rattle.sf_connection.specs.Connections.{HasPassed}
use Rattle.sf_connection.specs.Waits.{WaitsPromptly}

-- the event is of the session: open, feed, turn, close or sent
abbrev pub IsOf : ℕ → Event → Result Happened EngineFault → Type 0
IsOf session event.Open result = result ≡ Ok (happened.Opened session)
IsOf session (event.Feed s bytes) result = s ≡ session
IsOf session (event.Turn s moment) result = s ≡ session
IsOf session (event.Close s) result = s ≡ session
IsOf session (event.Sent s n) result = s ≡ session

abbrev pub IsEntryOf : ℕ → Entry → Type 0
IsEntryOf session x = IsOf session (event_of x) (result_of x)

-- the timestamp of a turn; none for other events
abbrev pub moment_of : Event → List ℕ
moment_of event.Open = []
moment_of (event.Feed s bytes) = []
moment_of (event.Turn s moment) = moment ∷ []
moment_of (event.Close s) = []
moment_of (event.Sent s n) = []

-- the timestamp of the event was read from the clock, or none was read and no call began
abbrev pub IsTimed : Event → Result Happened EngineFault → List ℕ → Type 0
IsTimed ev result moments =
    (moments ≡ moment_of ev) ⊎ ((moments ≡ []) × (result ≢ Ok happened.Begun))

-- These timestamps were read from the clock for the entries, in order. Each call that began has its
-- own.
unfoldable pub AreTimed : List Entry → List ℕ → Type 0
AreTimed [] moments = moments ≡ []
AreTimed (x ∷ entries) moments = (now : List ℕ) × (later : List ℕ) × (moments ≡ now ++ later)
    × IsTimed (event_of x) (result_of x) now × AreTimed entries later

-- whether the session's next turn may begin a call, after a turn with this result
abbrev pub may_begin_after : Happened → Bool
may_begin_after happened.Begun = false
may_begin_after happened.Moved = false
may_begin_after (happened.Blocked holder) = false
may_begin_after happened.Decided = false
may_begin_after _ = true

-- the maximum unsent output, in bytes, when a session of an engine takes a turn
abbrev pub engine_held : ℕ
engine_held = 65535

-- less than 64 KiB are unsent
abbrev pub IsLow : SessionLog → Type 0
IsLow l = length (transcript l.wrote) ≤ l.sent + engine_held

-- this holds when the session takes a turn
abbrev pub IsLowAt : SessionLog → Event → Type 0
IsLowAt l (event.Turn s moment) = IsLow l
IsLowAt l _ = Unit {0}

-- Before each turn less than 64 KiB are unsent, so these and one reply bound the unsent output.
unfoldable pub AreLow : (session : ℕ) → (log : List Entry) → (entries : List Entry) → Type 0
AreLow session log [] = Unit {0}
AreLow session log (x ∷ entries) = IsLowAt (of_session session log) (event_of x)
    × AreLow session (log ++ x ∷ []) entries

-- whether the session has left
abbrev pub has_left : Phase → Bool
has_left (Gone cause) = true
has_left _ = false

-- the session's pending call
abbrev pub HasCall : Phase → CallLog → Type 0
HasCall (UnderWay id number moment request moves) call =
    (number ≡ call.number) × (moment ≡ call.moment) × (moves ≡ call.moves)
HasCall (Decided id number request reply) call = number ≡ call.number
HasCall _ call = Unit {0}

-- The state of a session, by its part of a log.
pub record IsStateOf (l : SessionLog) (t : SessionState) : Type 0 where
  pub stream : t.stream ≡ l.fed
  pub answers : t.answers ≡ l.wrote
  pub sent : length t.sent ≡ l.sent
  pub front : IsFront t.sent (transcript t.answers)
  pub closed : l.left ≡ false → t.closed ≡ l.closed
  pub left : l.left ≡ has_left t.phase
  pub begun : l.begun ≡ length (answered_in l.wrote) + length (pending t.phase)
  pub call : HasCall t.phase l.call

-- An engine that has a log, and the timestamps read from a clock.
pub record Since : Type 0 where
  pub engine : EngineView
  pub log : List Entry
  pub has : HasLog engine log
  pub told : Option (List ℕ)

-- The log since then. All its entries are of one session that opened. Less than 64 KiB were unsent
-- before each turn, and the calls began at timestamps read from the clock.
pub record HasEntries (start : Since) (session : ℕ) (engine : EngineView)
    (told : Option (List ℕ)) : Type 0 where
  pub log : List Entry
  pub has : HasLog engine log
  pub entries : List Entry
  pub since : log ≡ start.log ++ entries
  pub known : IsKnown log session
  pub own : AllByRecursion (IsEntryOf session) entries
  pub low : AreLow session start.log entries
  pub moments : List ℕ
  pub timed : AreTimed entries moments
  pub clock : Appends start.told told moments

-- and the session's state
pub record IsTold (start : Since) (session : ℕ) (engine : EngineView) (told : Option (List ℕ))
    (t : SessionState) : Type 0 where
  pub later : HasEntries start session engine told
  pub state : IsStateOf (of_session session later.log) t

-- and there were at least `turns` entries
abbrev pub IsToldBy : (turns : ℕ) → Since → ℕ → EngineView → Option (List ℕ) → SessionState → Type 0
IsToldBy turns start session engine told t =
    (tells : IsTold start session engine told t) × (turns ≤ length tells.later.entries)

-- a stream and the waits for it, the timestamps read from a clock if exposed, and an engine
pub record IoState : Type 0 where
  pub stream : StreamView
  pub waits : WaitsView
  pub told : Option (List ℕ)
  pub engine : EngineView

abbrev pub io_state : StreamView → WaitsView → Option (List ℕ) → EngineView → IoState
io_state stream waits told engine =
    record { stream = stream; waits = waits; told = told; engine = engine }

-- since the engine had this log
abbrev pub since_at : (start : IoState) (log : List Entry) → HasLog start.engine log → Since
since_at start log has =
    record { engine = start.engine; log = log; has = has; told = start.told }

-- The effect of serving a stream to this end, whatever log the engine had. A new session was fed
-- all bytes read, its whole transcript was sent, and it has ended. At the end of the input the
-- session is closed. Whenever the server waited for input alone, all was answered.
abbrev pub ServesLine : IoState → IoState → Cause → Type 0
ServesLine start now cause = (log : List Entry) → (has : HasLog start.engine log)
    → (session : ℕ) × (p : Progress)
    × IsTold (since_at start log has) session now.engine now.told p.state
    × HasPassed start.stream now.stream p × IsServed now.stream.incoming cause p
    × WaitsPromptly start.stream start.waits now.waits

-- why no session opened: memory ran out, the maximum number of sessions exists, or session numbers
-- are exhausted
abbrev pub MayNotOpen : List Entry → ServeFault → Type 0
MayNotOpen log fault.Line = ⊥
MayNotOpen log fault.OutOfMemory = Unit {0}
MayNotOpen log fault.Sessions = left_in log + 256 ≤ opened_in log
MayNotOpen log fault.NumbersSpent = opened_in log ≡ most_calls

-- Serving has stopped and the session is closed. Unless the stream failed, all replies were
-- written. `NumbersSpent` occurs only after 2^64 - 1 bytes read or events.
abbrev pub HasStoppedAt : ServeFault → List Entry → Progress → Type 0
HasStoppedAt fault.Line entries p = TakesNone p.state
HasStoppedAt fault.OutOfMemory entries p = HasWritten p × TakesNone p.state
HasStoppedAt fault.Sessions entries p = ⊥
HasStoppedAt fault.NumbersSpent entries p = (HasWritten p × TakesNone p.state)
    × ((most_counted ≤ length p.state.stream) ⊎ (most_counted ≤ length entries))

-- why serving stops early; on `Line` the stream's error count rose
abbrev pub IsServeFault : ServeFault → ℕ → ℕ → Type 0
IsServeFault fault.Line failed failed' = Rose failed failed'
IsServeFault fault.OutOfMemory failed failed' = Unit {0}
IsServeFault fault.Sessions failed failed' = Unit {0}
IsServeFault fault.NumbersSpent failed failed' = Unit {0}

-- The effect of serving that stopped with this error: none, if no session could open; otherwise a
-- new session progressed to `p`.
abbrev pub StopsEarly : IoState → IoState → ServeFault → Type 0
StopsEarly start now f = (log : List Entry) → (has : HasLog start.engine log)
    → ((now ≡ start) × MayNotOpen log f)
    ⊎ ((session : ℕ) × (p : Progress)
    × (tells : IsTold (since_at start log has) session now.engine now.told p.state)
    × HasPassed start.stream now.stream p × HasStoppedAt f tells.later.entries p
    × IsServeFault f start.stream.failed now.stream.failed
    × WaitsPromptly start.stream start.waits now.waits)

-- the session was fed these bytes
abbrev pub Feeds : EngineView → ℕ → List ℕ → EngineView → Type 0
Feeds e session bytes e' = (fed : Vec ℕ) × (fed.items ≡ bytes) × (r : Happened)
    × AppendsEntry e (event.Feed session fed) (Ok r) e'

-- the event was applied or refused
abbrev pub Applies : EngineView → Event → EngineView → Type 0
Applies e ev e' = (r : Result Happened EngineFault) × AppendsEntry e ev r e'

-- the session's unsent output
abbrev pub HasOutput : EngineView → ℕ → List ℕ → Type 0
HasOutput e session output = (log : List Entry) → HasLog e log → IsKnown log session
    → IsUnsent (of_session session log).wrote (of_session session log).sent output

-- Turns of the session at a timestamp. It was read from the clock, if a call may begin.
abbrev pub Turns : ℕ → Bool → (told told' : Option (List ℕ)) → EngineView
    → Result Happened EngineFault → EngineView → Type 0
Turns session may_begin told told' e result e' = (moment : ℕ) × (moments : List ℕ)
    × AppendsTurns e session moment result e' × Appends told told' moments
    × ((moments ≡ moment ∷ []) ⊎ ((moments ≡ []) × (may_begin ≡ false)))
