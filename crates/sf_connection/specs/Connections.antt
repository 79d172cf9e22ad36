-- A session over a non-blocking stream, at any point at which the stream may block.
use Rattle.std.specs.Prelude.{◌≡◌, ◌≢◌, ◌<◌, ◌≤◌, ◌+◌, ◌^◌, ◌⊎◌, ℕ, List, [], ◌++◌, length, drop, map, false, Ok, Err}
use Rattle.std.specs.Io.KnownBytes.{Appends, Consumes, IsAtEnd}
use Rattle.sf_line.specs.Lines.{Rose}
use Rattle.sf_field.specs.Fields.{max_body}
use Rattle.sf_wire.specs.Packets.{Cuts}
use Rattle.sf_wire.specs.Packets.{More}
use Rattle.sf_call.specs.ReplyKinds.{longest_packet}
use Rattle.sf_session.specs.declared.cause.Cause.TheVariants.{Closed}
use Rattle.sf_session.specs.Responses.{ask_behind, transcript, AreAsked}
use Rattle.sf_session.specs.SessionStates.{SessionState, unsent, IsRead}
use Rattle.sf_connection.specs.Ends.{IsWhole}
use Rattle.sf_connection.specs.Hosts.{IsFront, IsOpen, Waits, IsHostFault}
use Rattle.sf_connection.specs.Progress.{Progress, IsServed, IsStopped, IsStop}
use Rattle.sf_connection.specs.declared.connection.Connection.{Connection}
use Rattle.sf_connection.specs.declared.connection.ServeState.{ServeState}
use Rattle.sf_connection.specs.declared.connection.ServeState.TheVariants.{Processing, Waiting, Ending}
use Rattle.sf_connection.specs.declared.connection.InputState.{InputState}
use Rattle.sf_connection.specs.declared.connection.InputState.TheVariants.{Open, AtEnd, Failed}
use Rattle.sf_connection.specs.declared.connection.Wants.{Wants}
use Rattle.sf_connection.specs.declared.connection.Wants.TheVariants.{Read, Write, Both, Again, Ended}
use Rattle.sf_connection.specs.Streams.{StreamView}

-- The bytes read are the session's stream, and bytes that it was not fed. The bytes written are a
-- prefix of its transcript.
pub record HasPassed (from now : StreamView) (p : Progress) : Type 0 where
  pub bodies : IsRead p.state
  pub read : Consumes from.incoming now.incoming (p.state.stream ++ p.unfed)
  pub wrote : Appends from.outgoing now.outgoing p.written
  pub begun : IsFront p.written (transcript p.state.answers)

-- the session, by what the connection does next
abbrev pub IsInState : ServeState → (work : ℕ) → Progress → Type 0
IsInState Processing work p = IsOpen p.state × (p.unfed ≡ [])
IsInState Waiting work p = Waits p.state × (p.unfed ≡ [])
IsInState (Ending (Ok cause)) work p = IsWhole p.state cause × (cause ≢ Closed) × (p.unfed ≡ [])
IsInState (Ending (Err f)) work p = IsHostFault f work

abbrev pub IsInput : InputState → (from now : StreamView) → Type 0
IsInput Open from now = Unit {0}
IsInput AtEnd from now = IsAtEnd now.incoming
IsInput Failed from now = Rose from.failed now.failed

-- the output that is not yet written: gathered, or still at the host
abbrev pub pending_output : {H S : Type 0} → Connection H S → SessionState → List ℕ
pending_output c t = c.gathered ++ drop c.direct (unsent t)

-- A connection that serves a session.
-- - `whole`: the bytes written and its pending output are the session's transcript;
-- - `within`: all of the host's output is recorded as sent as soon as it was written;
-- - `buffer`, `few`: pending output is at most 16 KiB, `held` bytes and one reply;
-- - `unread`, `small`: unread input is at most 16 MiB, one read and one packet;
-- - `ahead`, `waits`: the bytes read since the session last waited for input.
pub record IsServing {H S : Type 0} (held work : ℕ) (from now : StreamView) (c : Connection H S)
    (p : Progress) : Type 0 where
  pub passed : HasPassed from now p
  pub state : IsInState c.state work p
  pub input : IsInput c.input from now
  pub whole : transcript p.state.answers ≡ p.written ++ pending_output c p.state
  pub within : (c.direct ≡ 0) ⊎ (c.direct < length (unsent p.state))
  pub buffer : length c.gathered ≤ 16384
  pub few : length (unsent p.state) ≤ held + longest_packet
  pub unread : length p.state.unread ≤ c.ahead + 4 + max_body
  pub small : c.ahead < 2 ^ 24 + 65536
  pub ahead : c.ahead ≤ length p.state.stream
  pub waits : c.state ≡ Waiting → c.ahead ≡ 0
  pub failures : from.failed ≤ now.failed

-- some of its output is not yet written
abbrev pub HasDue : Progress → Type 0
HasDue p = length p.written < length (transcript p.state.answers)

-- the number of bytes that were read, of packets that were answered, and of bytes that were written
abbrev pub amount : Progress → ℕ
amount p = length p.state.stream + length p.unfed + length p.state.answers + length p.written

-- Every complete packet that was read is answered, and all answers are written.
pub record AnswersAll (p : Progress) : Type 0 where
  pub packets : Cuts (p.state.stream ++ p.unfed) p.state.bodies (More p.state.unread)
  pub answered : AreAsked false p.state.bodies (map ask_behind p.state.answers)
  pub written : p.written ≡ transcript p.state.answers

-- the connection reads no further before its output is written
abbrev pub ReadsNoFurther : {H S : Type 0} → Connection H S → Type 0
ReadsNoFurther c = (2 ^ 24 ≤ c.ahead) ⊎ (c.input ≢ Open) ⊎ ((o : _) × (c.state ≡ Ending o))

-- what holds after `advance`
abbrev pub Returns : {H S : Type 0} → Wants → (held work : ℕ) → (from now : StreamView)
    → Connection H S → (p p' : Progress) → Type 0
Returns Read held work from now c p p' = IsServing held work from now c p' × AnswersAll p'
Returns Write held work from now c p p' =
    IsServing held work from now c p' × HasDue p' × ReadsNoFurther c
Returns Both held work from now c p p' = IsServing held work from now c p' × HasDue p'
Returns Again held work from now c p p' =
    IsServing held work from now c p' × (amount p < amount p')
Returns (Ended (Ok cause)) held work from now c p p' =
    HasPassed from now p' × IsServed now.incoming cause p'
Returns (Ended (Err f)) held work from now c p p' =
    HasPassed from now p' × IsStopped f work p' × IsStop f from.failed now.failed

-- the connection was served so far, and a call makes further progress for which `Then` holds
abbrev pub MakesProgress : {H S : Type 0} → (held : ℕ) → (T : SessionState → Type 0) → (work : ℕ)
    → (now : StreamView) → Connection H S → (T' : SessionState → Type 0)
    → (Then : StreamView → (p p' : Progress) → Type 0) → Type 0
MakesProgress held T work now c T' Then =
    (from : StreamView) (p : Progress) → T p.state → IsServing held work from now c p
    → (p' : Progress) × T' p'.state × Then from p p'

-- the stream blocks, and nothing else is to be done
abbrev pub BlocksFor : Wants → (reads writes : Type 0) → Type 0
BlocksFor Read reads writes = reads
BlocksFor Write reads writes = writes
BlocksFor Both reads writes = reads × writes
BlocksFor Again reads writes = Unit {0}
BlocksFor (Ended outcome) reads writes = Unit {0}

-- the session has ended, or has not
abbrev pub IfEnded : Wants → (going gone : Type 0) → Type 0
IfEnded (Ended outcome) going gone = gone
IfEnded _ going gone = going
