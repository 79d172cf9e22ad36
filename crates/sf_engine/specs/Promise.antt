-- The promise of an engine. Its log has one entry for each event.
--
-- The engine is linearizable, down to the bytes (`IsLinearizable`): one sequential history has all
-- calls, each call takes effect once, between its beginning and its reply, and each session is sent
-- exactly its replies. The history only grows. `IsKept` also says which result each event may have.
-- The trait `Sftp` promises `IsKept` and `AreNeverAllBlocked` of every log that an engine has.
use Rattle.std.specs.Prelude.{◌≡◌, ◌≢◌, ◌<◌, ◌≤◌, ◌+◌, ◌-◌, ◌/◌, ◌⊎◌, ℕ, zero, suc, nat_eq, List, [], ◌∷◌, ◌++◌, length, map, fold, Bool, true, false, if◌then◌else◌, Option, Some, None, slice_get, Result, Ok, Err}
use Rattle.std.specs.Global.{Vec}
use Rattle.std.specs.List.{AllByRecursion, AllZip, Contains, flat_map, count_by}
use Rattle.std.specs.Result.{IsOk}
use Rattle.sf_field.specs.Fields.{AreBytes, packet}
use Rattle.sf_wire.specs.declared.cutting.Cut.TheVariants as cut
use Rattle.sf_wire.specs.Packets.{IsBody, IsCut}
use Rattle.sf_reply.specs.Replies.{reply_body}
use Rattle.sf_reply.specs.declared.reply.Reply.{Reply}
use Rattle.sf_call.specs.declared.request.Request.{Request}
use Rattle.sf_call.specs.declared.request.Request.TheVariants as request
use Rattle.sf_call.specs.declared.record.Record.{Record}
use Rattle.sf_call.specs.declared.record.Record.TheVariants.{Did, Left}
use Rattle.sf_call.specs.declared.fault.BeginFault.TheVariants as begin
use Rattle.sf_call.specs.Histories.{IsLegal}
use Rattle.sf_session.specs.declared.asking.Ask.TheVariants as ask
use Rattle.sf_session.specs.declared.cause.Cause.{Cause}
use Rattle.sf_session.specs.declared.cause.Cause.TheVariants as ending
use Rattle.sf_session.specs.Sessions.{EndsBy}
use Rattle.sf_session.specs.Responses.{Response, Version, Locally, ByCall, Refused, ask_behind, transcript, has_begun, AreAsked, RepliedCall, recorded_in, answered_in, Due, NothingDue, Unrecorded, Recorded, asked_due, recorded_due, most_calls}
use Rattle.sf_engine.specs.declared.event.Event.{Event}
use Rattle.sf_engine.specs.declared.event.Event.TheVariants as event
use Rattle.sf_engine.specs.declared.event.Happened.{Happened}
use Rattle.sf_engine.specs.declared.event.Happened.TheVariants as happened
use Rattle.sf_engine.specs.declared.event.EngineFault.{EngineFault}
use Rattle.sf_engine.specs.declared.event.EngineFault.TheVariants as fault

-- ---- entries

-- The outcome of an event. `added` are records of calls, which take effect at this event; `number`
-- is the call's; `leaves` says that the session leaves, which adds a record of that.
pub data Entry : Type 0 where
  SessionOpened : (session : ℕ) → Entry
  BytesFed : (session : ℕ) → (bytes : Vec ℕ) → Entry
  CallBegun : (session moment number : ℕ) → Entry
  CallMoved : (session moment : ℕ) → (added : List Record) → Entry
  CallBlocked : (session moment holder : ℕ) → Entry
  CallDecided : (session moment : ℕ) → (added : List Record) → Entry
  ReplyWritten : (session moment : ℕ) → (answer : Response) → (leaves : Bool) → Entry
  SessionIdle : (session moment : ℕ) → Entry
  SessionEnded : (session moment : ℕ) → (cause : Cause) → (leaves : Bool) → Entry
  SessionClosed : (session : ℕ) → (leaves : Bool) → Entry
  BytesSent : (session n : ℕ) → Entry
  EventRefused : (event : Event) → (fault : EngineFault) → Entry

-- the event
abbrev pub event_of : Entry → Event
event_of (SessionOpened s) = event.Open
event_of (BytesFed s bytes) = event.Feed s bytes
event_of (CallBegun s m n) = event.Turn s m
event_of (CallMoved s m added) = event.Turn s m
event_of (CallBlocked s m holder) = event.Turn s m
event_of (CallDecided s m added) = event.Turn s m
event_of (ReplyWritten s m answer leaves) = event.Turn s m
event_of (SessionIdle s m) = event.Turn s m
event_of (SessionEnded s m cause leaves) = event.Turn s m
event_of (SessionClosed s leaves) = event.Close s
event_of (BytesSent s n) = event.Sent s n
event_of (EventRefused ev f) = ev

-- the result that the caller received
abbrev pub result_of : Entry → Result Happened EngineFault
result_of (SessionOpened s) = Ok (happened.Opened s)
result_of (BytesFed s bytes) = Ok happened.Fed
result_of (CallBegun s m n) = Ok happened.Begun
result_of (CallMoved s m added) = Ok happened.Moved
result_of (CallBlocked s m holder) = Ok (happened.Blocked holder)
result_of (CallDecided s m added) = Ok happened.Decided
result_of (ReplyWritten s m answer leaves) = Ok happened.Wrote
result_of (SessionIdle s m) = Ok happened.Idle
result_of (SessionEnded s m cause leaves) = Ok (happened.Ended cause)
result_of (SessionClosed s leaves) = Ok happened.Closed
result_of (BytesSent s n) = Ok happened.Sent
result_of (EventRefused ev f) = Err f

-- the session of the event, or 0 if the event was refused
abbrev pub session_of : Entry → ℕ
session_of (SessionOpened s) = s
session_of (BytesFed s bytes) = s
session_of (CallBegun s m n) = s
session_of (CallMoved s m added) = s
session_of (CallBlocked s m holder) = s
session_of (CallDecided s m added) = s
session_of (ReplyWritten s m answer leaves) = s
session_of (SessionIdle s m) = s
session_of (SessionEnded s m cause leaves) = s
session_of (SessionClosed s leaves) = s
session_of (BytesSent s n) = s
session_of (EventRefused ev f) = 0

-- whether the session leaves
abbrev pub leaves_by : Entry → Bool
leaves_by (ReplyWritten s m answer leaves) = leaves
leaves_by (SessionEnded s m cause leaves) = leaves
leaves_by (SessionClosed s leaves) = leaves
leaves_by _ = false

-- the records of the calls that take effect
abbrev pub calls_by : Entry → List Record
calls_by (CallMoved s m added) = added
calls_by (CallDecided s m added) = added
calls_by _ = []

-- all records that the entry adds to the history
abbrev pub added_by : Entry → List Record
added_by (CallMoved s m added) = added
added_by (CallDecided s m added) = added
added_by x = if leaves_by x then Left (session_of x) ∷ [] else []

abbrev pub is_opening : Entry → Bool
is_opening (SessionOpened s) = true
is_opening _ = false

abbrev pub is_beginning : Entry → Bool
is_beginning (CallBegun s m n) = true
is_beginning _ = false

-- ---- the contents of a log

-- the sequential history of all calls
abbrev pub linearization : List Entry → List Record
linearization log = flat_map added_by log

-- the number of sessions that opened, of sessions that left, and of calls that began
abbrev pub opened_in : List Entry → ℕ
opened_in log = count_by is_opening log

abbrev pub left_in : List Entry → ℕ
left_in log = count_by leaves_by log

abbrev pub begun_in : List Entry → ℕ
begun_in log = count_by is_beginning log

-- a session's last call: its number, its moment, the number of its moves, and whether a turn
-- reported that it is decided
pub record CallLog : Type 0 where
  pub number : ℕ
  pub moment : ℕ
  pub moves : ℕ
  pub decided : Bool

-- A session's part of a log: the bytes that it was fed, its replies, the number of their bytes that
-- were sent, the number of calls that it began, its last call, whether it was closed, whether it
-- has left, and its last entry.
pub record SessionLog : Type 0 where
  pub fed : List ℕ
  pub wrote : List Response
  pub sent : ℕ
  pub begun : ℕ
  pub call : CallLog
  pub closed : Bool
  pub left : Bool
  pub last : Option Entry

abbrev pub new_log : SessionLog
new_log = record {
  fed = [];
  wrote = [];
  sent = 0;
  begun = 0;
  call = record { number = 0; moment = 0; moves = 0; decided = false };
  closed = false;
  left = false;
  last = None;
}

-- with one more entry of the session
abbrev pub with_own : SessionLog → Entry → SessionLog
with_own t (BytesFed s bytes) =
    record t { fed = t.fed ++ bytes.items; last = Some (BytesFed s bytes) }
with_own t (CallBegun s m n) = record t {
  begun = t.begun + 1;
  call = record { number = n; moment = m; moves = 0; decided = false };
  last = Some (CallBegun s m n);
}
with_own t (CallMoved s m added) = record t {
  call = record t.call { moves = t.call.moves + 1 };
  last = Some (CallMoved s m added);
}
with_own t (CallDecided s m added) =
    record t { call = record t.call { decided = true }; last = Some (CallDecided s m added) }
with_own t (ReplyWritten s m answer leaves) = record t {
  wrote = t.wrote ++ answer ∷ [];
  left = if leaves then true else t.left;
  last = Some (ReplyWritten s m answer leaves);
}
with_own t (SessionEnded s m cause leaves) =
    record t { left = true; last = Some (SessionEnded s m cause leaves) }
with_own t (SessionClosed s leaves) = record t {
  closed = true;
  left = if leaves then true else t.left;
  last = Some (SessionClosed s leaves);
}
with_own t (BytesSent s n) = record t { sent = t.sent + n; last = Some (BytesSent s n) }
with_own t e = record t { last = Some e }

-- with one more entry of any session
abbrev pub with_next : ℕ → SessionLog → Entry → SessionLog
with_next s t e = if nat_eq (session_of e) s then with_own t e else t

abbrev pub of_session : ℕ → List Entry → SessionLog
of_session s log = fold (with_next s) new_log log

-- the session opened
abbrev pub IsKnown : List Entry → ℕ → Type 0
IsKnown log s = (0 < s) × (s ≤ opened_in log)

-- and has not left
abbrev pub IsHere : List Entry → ℕ → Type 0
IsHere log s = IsKnown log s × ((of_session s log).left ≡ false)

-- ---- linearizability

-- the session's last call has this number, and no reply yet
abbrev pub IsUnanswered : SessionLog → ℕ → Type 0
IsUnanswered t number = (t.call.number ≡ number) × (length (answered_in t.wrote) < t.begun)

-- the record is of a call that has begun and has no reply yet
abbrev pub IsPending : List Entry → Record → Type 0
IsPending front (Did number s moment request reply) =
    IsUnanswered (of_session s front) number × ((of_session s front).call.moment ≡ moment)
IsPending front (Left s) = ⊥

-- The pending reply, and the bytes that are not read yet, after the session's last entry. A session
-- ends since it was closed, or since a wrong length or a body that ends the session is next.
abbrev pub IsDueAfter : Option Entry → Bool → List (List ℕ) → List ℕ → Due → Type 0
IsDueAfter (Some (CallBegun s m n)) closed bodies rest due = due ≢ NothingDue
IsDueAfter (Some (CallMoved s m added)) closed bodies rest due = due ≢ NothingDue
IsDueAfter (Some (CallBlocked s m holder)) closed bodies rest due = due ≢ NothingDue
IsDueAfter (Some (CallDecided s m added)) closed bodies rest due =
    (id : ℕ) × (call : RepliedCall) × (due ≡ Recorded id call)
IsDueAfter (Some (ReplyWritten s m answer leaves)) closed bodies rest due = due ≡ NothingDue
IsDueAfter (Some (SessionIdle s m)) closed bodies rest due =
    (due ≡ NothingDue) × IsCut rest cut.More
IsDueAfter (Some (SessionEnded s m c leaves)) closed bodies rest due =
    (due ≡ NothingDue)
    × (((c ≡ ending.Closed) × (closed ≡ true)) ⊎ EndsBy (has_begun bodies) rest c)
IsDueAfter _ closed bodies rest due = Unit {0}

-- the most steps of a call, without those in which it is blocked: three, one for each component of
-- its paths, and one for each block of a WRITE and one more
abbrev pub most_steps : Request → ℕ
most_steps (request.OnPath op path) = length path + 3
most_steps (request.OnPaths op old new) = length old + length new + 3
most_steps (request.ByHandle op handle) = 3
most_steps (request.Write handle offset bytes) = 3 + ((length bytes + 4095) / 4096 + 1)

-- a pending call has moved fewer times
abbrev pub HasFewMoves : Due → ℕ → Type 0
HasFewMoves NothingDue moves = Unit {0}
HasFewMoves (Unrecorded id request) moves = moves < most_steps request
HasFewMoves (Recorded id call) moves = moves < most_steps call.request

-- The bytes that a session was fed are `bodies`, each with its length before it, and then `rest`,
-- which is not read yet. Each body has its answer in `wrote`, in order; the answer to the last one
-- may still be due. The session's calls in the history are those that were answered, and then the
-- pending one, if it has taken effect.
pub record IsAnswered (t : SessionLog) (recorded : List RepliedCall) : Type 0 where
  pub bodies : List (List ℕ)
  pub rest : List ℕ
  pub due : Due
  pub are_bodies : AllByRecursion IsBody bodies
  pub fed : t.fed ≡ flat_map packet bodies ++ rest
  pub asked : AreAsked false bodies (map ask_behind t.wrote ++ asked_due due)
  pub calls : recorded ≡ answered_in t.wrote ++ recorded_due due
  pub begun : t.begun ≡ length (answered_in t.wrote) + length (asked_due due)
  pub after_last : IsDueAfter t.last t.closed bodies rest due
  pub closed : t.closed ≡ true → due ≡ NothingDue → t.left ≡ true
  pub few : HasFewMoves due t.call.moves

-- the bytes to send: the packets of the replies, without the first bytes, which were sent
pub record IsUnsent (wrote : List Response) (count : ℕ) (output : List ℕ) : Type 0 where
  pub sent : List ℕ
  pub count_is : length sent ≡ count
  pub packets : transcript wrote ≡ sent ++ output

-- The history is one of a sequential file system. Each call takes effect at one event, after its
-- beginning and before its reply. At each moment each session's replies are those of the history so
-- far, but for one pending call.
pub record IsLinearizable (log : List Entry) : Type 0 where
  pub legal : IsLegal (linearization log)
  pub pending : (front back : List Entry) (e : Entry) → log ≡ front ++ e ∷ back
      → AllByRecursion (IsPending front) (calls_by e)
  pub answered : (front back : List Entry) → log ≡ front ++ back → (s : ℕ) → IsKnown front s
      → IsAnswered (of_session s front) (recorded_in s (linearization front))

-- ---- the results of events

-- A session has no call, its call is running, its call's reply is pending, or it has left.
pub data SessionPhase : Type 0 where
  WithoutCall : SessionPhase
  Running : SessionPhase
  Replying : SessionPhase
  HasLeft : SessionPhase

abbrev pub phase_at : (left : Bool) → (due : ℕ) → (decided : Bool) → SessionPhase
phase_at true due decided = HasLeft
phase_at false zero decided = WithoutCall
phase_at false (suc n) false = Running
phase_at false (suc n) true = Replying

abbrev pub phase : SessionLog → SessionPhase
phase t = phase_at t.left (t.begun - length (answered_in t.wrote)) t.call.decided

-- the session is known, and in this phase
abbrev pub IsInPhase : List Entry → ℕ → SessionPhase → Type 0
IsInPhase front s c = IsKnown front s × (phase (of_session s front) ≡ c)

-- when a reply is written: that to a call once the history has the call, with this reply
abbrev pub MayWrite : List Entry → ℕ → Response → Type 0
MayWrite front s Version = Unit {0}
MayWrite front s (Locally id reply) = Unit {0}
MayWrite front s (ByCall id number request reply) = recorded_in s (linearization front)
    ≡ answered_in ((of_session s front).wrote ++ ByCall id number request reply ∷ [])
MayWrite front s (Refused id request begin.OutOfMemory) = begun_in front < most_calls
MayWrite front s (Refused id request begin.NumbersSpent) = begun_in front ≡ most_calls

-- why an event is refused
abbrev pub MayBeRefused : List Entry → Event → EngineFault → Type 0
MayBeRefused front event.Open fault.OutOfMemory =
    (opened_in front < left_in front + 256) × (opened_in front < most_calls)
MayBeRefused front event.Open fault.Sessions = left_in front + 256 ≤ opened_in front
MayBeRefused front event.Open fault.NumbersSpent =
    (opened_in front < left_in front + 256) × (opened_in front ≡ most_calls)
MayBeRefused front (event.Feed s bytes) fault.OutOfMemory =
    IsHere front s × ((of_session s front).closed ≡ false)
MayBeRefused front (event.Feed s bytes) fault.NoSuchSession = ¬ IsKnown front s
MayBeRefused front (event.Feed s bytes) fault.Ended = IsKnown front s
    × (((of_session s front).closed ≡ true) ⊎ ((of_session s front).left ≡ true))
MayBeRefused front (event.Turn s m) fault.OutOfMemory = IsInPhase front s WithoutCall
    ⊎ (IsInPhase front s Replying × ((call : RepliedCall) → recorded_in s (linearization front)
    ≡ answered_in (of_session s front).wrote ++ call ∷ []
    → 1088 < length (packet (reply_body 0 call.reply))))
MayBeRefused front (event.Turn s m) fault.NoSuchSession = ¬ IsKnown front s
MayBeRefused front (event.Close s) fault.NoSuchSession = ¬ IsKnown front s
MayBeRefused front (event.Sent s n) fault.NoSuchSession = ¬ IsKnown front s
MayBeRefused front (event.Sent s n) fault.NotSent = IsKnown front s
    × (length (transcript (of_session s front).wrote) < (of_session s front).sent + n)
MayBeRefused front _ _ = ⊥

-- the phase in which a session writes this
abbrev pub phase_before : Response → SessionPhase
phase_before (ByCall id number request reply) = Replying
phase_before _ = WithoutCall

-- an entry may follow these
abbrev pub IsLawful : List Entry → Entry → Type 0
IsLawful front (SessionOpened s) =
    (s ≡ opened_in front + 1) × (opened_in front < left_in front + 256)
IsLawful front (BytesFed s bytes) = IsHere front s × ((of_session s front).closed ≡ false)
IsLawful front (CallBegun s m n) = IsInPhase front s WithoutCall × (n ≡ begun_in front + 1)
IsLawful front (CallMoved s m added) = IsInPhase front s Running
IsLawful front (CallBlocked s m holder) = IsInPhase front s Running
    × ((other : ℕ) × (other ≢ s) × IsUnanswered (of_session other front) holder)
IsLawful front (CallDecided s m added) = IsInPhase front s Running
IsLawful front (ReplyWritten s m answer leaves) = IsInPhase front s (phase_before answer)
    × MayWrite front s answer × (leaves ≡ (of_session s front).closed)
IsLawful front (SessionIdle s m) = IsInPhase front s WithoutCall
IsLawful front (SessionEnded s m cause leaves) =
    IsInPhase front s (if leaves then WithoutCall else HasLeft)
IsLawful front (SessionClosed s true) = IsInPhase front s WithoutCall
IsLawful front (SessionClosed s false) =
    IsKnown front s × (phase (of_session s front) ≢ WithoutCall)
IsLawful front (BytesSent s n) = IsKnown front s
    × ((of_session s front).sent + n ≤ length (transcript (of_session s front).wrote))
IsLawful front (EventRefused ev f) = MayBeRefused front ev f

pub record IsKept (log : List Entry) : Type 0 where
  pub linearizable : IsLinearizable log
  pub lawful : (front back : List Entry) (e : Entry) → log ≡ front ++ e ∷ back → IsLawful front e

-- ---- progress

-- the sessions whose calls were blocked since the last step of any call
abbrev pub blocked_by : List ℕ → Entry → List ℕ
blocked_by sessions (CallMoved s m added) = []
blocked_by sessions (CallDecided s m added) = []
blocked_by sessions (CallBlocked s m holder) = s ∷ sessions
blocked_by sessions _ = sessions

-- Not all calls that are running were blocked since the last step.
abbrev pub AreNeverAllBlocked : List Entry → Type 0
AreNeverAllBlocked log = (s : ℕ) → IsInPhase log s Running
    → ((z : ℕ) → IsInPhase log z Running → Contains (fold blocked_by [] log) z) → ⊥

-- how many of one event were refused
abbrev pub refusals : Result Happened EngineFault → ℕ
refusals (Ok r) = 0
refusals (Err f) = 1

-- whether after a turn with this result the session's call is neither answered nor blocked
abbrev pub continues : Result Happened EngineFault → Bool
continues (Ok happened.Begun) = true
continues (Ok happened.Moved) = true
continues (Ok happened.Decided) = true
continues _ = false

-- Turns of a session at a moment: some after which its call continues, and a last one with this
-- result.
abbrev pub AreTurnsOf : ℕ → ℕ → Result Happened EngineFault → List Entry → Type 0
AreTurnsOf s m result entries = (earlier : List Entry) × (last : Entry)
    × (entries ≡ earlier ++ last ∷ [])
    × AllByRecursion (λ x. (event_of x ≡ event.Turn s m) × (continues (result_of x) ≡ true)) earlier
    × (event_of last ≡ event.Turn s m) × (result_of last ≡ result)

abbrev pub is_running : SessionPhase → Bool
is_running Running = true
is_running _ = false

-- the sessions up to a number whose calls are running, by rising number
abbrev pub under_way_to : List Entry → ℕ → List ℕ
under_way_to log zero = []
under_way_to log (suc n) = under_way_to log n
    ++ (if is_running (phase (of_session (suc n) log)) then suc n ∷ [] else [])

abbrev pub under_way : List Entry → List ℕ
under_way log = under_way_to log (opened_in log)

-- Rounds in order. In each round every session whose call is running has one turn at the moment 0,
-- which is not refused.
unfoldable pub AreRounds : List Entry → List (List Entry) → Type 0
AreRounds log [] = Unit {0}
AreRounds log (round ∷ rounds) = (under_way log ≢ [])
    × AllZip (λ s x. (event_of x ≡ event.Turn s 0) × IsOk (result_of x)) (under_way log) round
    × AreRounds (log ++ round) rounds

-- the pending reply of a session is to a call of this request
abbrev pub IsDueTo : List Entry → ℕ → Request → Type 0
IsDueTo log s request = (a : IsAnswered (of_session s log) (recorded_in s (linearization log)))
    × (id : ℕ) × (asked_due a.due ≡ ask.Call id request ∷ [])

-- A session rests, and what is left of its bytes has no whole packet and no wrong length.
pub record WaitsForBytes (log : List Entry) (s : ℕ) : Type 0 where
  pub at : IsInPhase log s WithoutCall
  pub answered : IsAnswered (of_session s log) (recorded_in s (linearization log))
  pub cut : IsCut answered.rest cut.More

-- ---- runs of a new engine

-- the number of sessions that opened, 0 or 1
abbrev pub openings : Result Happened EngineFault → ℕ
openings (Ok (happened.Opened session)) = 1
openings _ = 0

-- A kept log has these events and results, and these bytes wait to be sent to each session.
pub record IsOutcome (events : List Event) (results : List (Result Happened EngineFault))
    (outputs : List (Vec ℕ)) : Type 0 where
  pub log : List Entry
  pub kept : IsKept log
  pub events_are : map event_of log ≡ events
  pub results_are : map result_of log ≡ results
  pub count : length outputs ≡ opened_in log
  pub each : (i : ℕ) (output : Vec ℕ) → slice_get outputs i ≡ Some output
      → IsUnsent (of_session (i + 1) log).wrote (of_session (i + 1) log).sent output.items

-- fed bytes are bytes
abbrev pub IsOfBytes : Entry → Type 0
IsOfBytes (BytesFed s bytes) = AreBytes bytes.items
IsOfBytes _ = Unit {0}
