-- How a backend changes a session's state.
use Rattle.std.specs.Prelude.{◌≡◌, ◌≢◌, ◌<◌, ◌≤◌, ◌^◌, ◌-◌, ℕ, List, [], ◌∷◌, ◌++◌, length, false, Result, Ok, Err}
use Rattle.sf_wire.specs.declared.cutting.Cut.TheVariants as cut
use Rattle.sf_wire.specs.Packets.{IsCut}
use Rattle.sf_session.specs.declared.cause.Cause.TheVariants.{Closed}
use Rattle.sf_session.specs.declared.fault.ServeFault.{ServeFault}
use Rattle.sf_session.specs.declared.fault.ServeFault.TheVariants as fault
use Rattle.sf_session.specs.Responses.{Response, transcript}
use Rattle.sf_session.specs.SessionStates.{Resting, SessionState, closed_now, IsRead, HasShortPacket}
use Rattle.sf_connection.specs.declared.host.SessionStep.{SessionStep}
use Rattle.sf_connection.specs.declared.host.SessionStep.TheVariants as step
use Rattle.sf_connection.specs.Ends.{IsWhole}

abbrev pub IsFront : {A : Type 0} → List A → List A → Type 0
IsFront {A} front whole = (rest : List A) × (whole ≡ front ++ rest)

-- the greatest count
abbrev pub most_counted : ℕ
most_counted = 2 ^ 64 - 1

-- The session is idle and accepts input.
pub record IsOpen (t : SessionState) : Type 0 where
  pub rests : t.phase ≡ Resting
  pub closed : t.closed ≡ false

-- all replies were sent
abbrev pub HasSent : SessionState → Type 0
HasSent t = t.sent ≡ transcript t.answers

-- the session waits for input: there is no complete unread packet
abbrev pub Waits : SessionState → Type 0
Waits t = IsOpen t × IsCut t.unread cut.More

-- Replies that are unsent together. Before the last of them at most `held` bytes were unsent, and
-- its packet is at most as long as the longest reply. Their sum bounds the unsent output.
abbrev pub IsBatch : (held : ℕ) → List Response → Type 0
IsBatch held answers = (before : List Response) (last : Response) → answers ≡ before ++ last ∷ []
    → (length (transcript before) ≤ held) × HasShortPacket last

-- More bodies were processed and answered, in a batch; nothing was received or sent.
pub record IsFurther (held : ℕ) (t t' : SessionState) : Type 0 where
  pub stream : t'.stream ≡ t.stream
  pub sent : t'.sent ≡ t.sent
  pub bodies : IsFront t.bodies t'.bodies
  pub answers : IsFront t.answers t'.answers
  pub batch : IsBatch held answers.0
  pub read : IsRead t'

-- After a step the session waits for input, has more answers, or has ended with all of its stream
-- answered.
abbrev pub IsSessionStep : Result SessionStep ServeFault → SessionState → SessionState → Type 0
IsSessionStep (Ok step.Waits) t t' = Waits t'
IsSessionStep (Ok step.Answered) t t' = IsOpen t' × (length t.answers < length t'.answers)
IsSessionStep (Ok (step.Ended cause)) t t' = IsWhole t' cause × (cause ≢ Closed)
IsSessionStep (Err f) t t' = Unit {0}

-- all output was sent
abbrev pub with_sent : SessionState → SessionState
with_sent t = record t { sent = transcript t.answers }

-- the session accepts no more input
abbrev pub ended : SessionState → SessionState
ended t = closed_now t t.phase

-- why a backend stops: memory ran out, or its work can no longer be counted
abbrev pub IsHostFault : ServeFault → (work : ℕ) → Type 0
IsHostFault fault.Line work = ⊥
IsHostFault fault.OutOfMemory work = Unit {0}
IsHostFault fault.Sessions work = ⊥
IsHostFault fault.NumbersSpent work = most_counted ≤ work
