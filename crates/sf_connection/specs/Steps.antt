-- No public clause cites this module.
-- The steps of `advance`.
use Rattle.std.specs.Prelude.{◌≡◌, ◌≢◌, ◌<◌, ◌≤◌, ◌+◌, ◌^◌, ◌⊎◌, ℕ, List, Option, Some, None, Result, Ok, Err, [], true, false, Bool}
use Rattle.std.specs.Io.KnownBytes.{Consumes}
use Rattle.sf_session.specs.declared.cause.Cause.{Cause}
use Rattle.sf_session.specs.declared.fault.ServeFault.{ServeFault}
use Rattle.sf_line.specs.Lines.{Rose}
use Rattle.sf_connection.specs.declared.host.SessionStep.{SessionStep}
use Rattle.sf_connection.specs.declared.host.SessionStep.TheVariants as step
use Rattle.sf_connection.specs.Hosts.{HasSent, ended}
use Rattle.sf_connection.specs.Progress.{Progress, progress, IsServed, IsStopped, IsStop}
use Rattle.sf_line.specs.declared.line.LineFault.{LineFault}
use Rattle.sf_connection.specs.declared.connection.Connection.{Connection}
use Rattle.sf_connection.specs.declared.connection.ServeState.{ServeState}
use Rattle.sf_connection.specs.declared.connection.ServeState.TheVariants.{Processing, Waiting, Ending}
use Rattle.sf_connection.specs.declared.connection.InputState.{InputState}
use Rattle.sf_connection.specs.declared.connection.InputState.TheVariants.{Open}
use Rattle.sf_connection.specs.declared.connection.Wants.{Wants}
use Rattle.sf_connection.specs.declared.connection.Wants.TheVariants.{Again}
use Rattle.sf_connection.specs.Streams.{StreamView}
use Rattle.sf_session.specs.SessionStates.{SessionState}
use Rattle.sf_connection.specs.Connections.{IsServing, amount, Returns}

-- a part of `advance`, which is called only if `Given` holds
abbrev pub StepsIf : {H S : Type 0} → (Given : StreamView → Progress → Type 0) → (held : ℕ)
    → (T : SessionState → Type 0) → (work : ℕ) → (now : StreamView) → Connection H S
    → (T' : SessionState → Type 0) → (Then : StreamView → (p p' : Progress) → Type 0) → Type 0
StepsIf Given held T work now c T' Then =
    (from : StreamView) (p : Progress) → T p.state → IsServing held work from now c p
    → Given from p → (p' : Progress) × T' p'.state × Then from p p'

-- the connection's state after a step of the host
abbrev pub state_after : Result SessionStep ServeFault → ServeState
state_after (Ok step.Waits) = Waiting
state_after (Ok step.Answered) = Processing
state_after (Ok (step.Ended cause)) = Ending (Ok cause)
state_after (Err f) = Ending (Err f)

-- nothing is to be written before the next step
abbrev pub IsClear : {H S : Type 0} → Connection H S → Progress → Type 0
IsClear c p = HasSent p.state × (c.state ≢ Processing → c.gathered ≡ [])

-- The most steps without progress: the session stops processing, and its input ends.
abbrev pub state_rank : ServeState → ℕ
state_rank Processing = 1
state_rank _ = 0

abbrev pub input_rank : InputState → ℕ
input_rank Open = 1
input_rank _ = 0

abbrev pub rank : {H S : Type 0} → Connection H S → ℕ
rank c = state_rank c.state + input_rank c.input

-- some progress was made, or fewer steps without progress remain
abbrev pub HasStepped : {H S : Type 0} → (c c' : Connection H S) → (p p' : Progress) → Type 0
HasStepped c c' p p' = (amount p < amount p') ⊎ ((amount p ≤ amount p') × (rank c' < rank c))

-- after some steps: progress was made, or few steps without progress
abbrev pub HasSteppedBy : {H S : Type 0} → (steps : ℕ) → Connection H S → (p p' : Progress) → Type 0
HasSteppedBy steps c p p' =
    (amount p < amount p') ⊎ ((amount p ≤ amount p') × (steps + rank c ≤ 2))

-- what holds after a step that returns this
abbrev pub HasTurned : {H S : Type 0} → Option Wants → (held work : ℕ) → (from now : StreamView)
    → (c c' : Connection H S) → (p p' : Progress) → Type 0
HasTurned None held work from now c c' p p' =
    IsServing held work from now c' p' × HasStepped c c' p p'
HasTurned (Some wants) held work from now c c' p p' = Returns wants held work from now c' p p'

-- the session once its host has ended it
abbrev pub over : Progress → Progress
over p = progress (ended p.state) p.unfed p.written

-- a session that may end now for this reason
abbrev pub MayEnd : Result Cause ServeFault → (work : ℕ) → (from now : StreamView) → Progress
    → Type 0
MayEnd (Ok cause) work from now p = IsServed now.incoming cause (over p)
MayEnd (Err f) work from now p = IsStopped f work (over p) × IsStop f from.failed now.failed

-- what a write did: it wrote some bytes, it would block, or it failed
abbrev pub HasTried : Result Bool LineFault → (from now : StreamView) → (p p' : Progress) → Type 0
HasTried (Ok true) from now p p' = amount p < amount p'
HasTried (Ok false) from now p p' = p' ≡ p
HasTried (Err f) from now p p' = (p' ≡ p) × Rose from.failed now.failed

-- what a read did: it read some bytes, or found the end of the input or an error; or it would block
abbrev pub HasRead : {H S : Type 0} → Bool → (c c' : Connection H S) → (p p' : Progress) → Type 0
HasRead true c c' p p' = HasStepped c c' p p'
HasRead false c c' p p' = p' ≡ p

-- these bytes were read
pub record IsReadFrom (now now' : StreamView) (bytes : List ℕ) : Type 0 where
  pub consumes : Consumes now.incoming now'.incoming bytes
  pub outgoing : now'.outgoing ≡ now.outgoing
  pub failures : now.failed ≤ now'.failed

-- it may read although its output is pending
abbrev pub MayReadAhead : {H S : Type 0} → Connection H S → Type 0
MayReadAhead c =
    (c.input ≡ Open) × (c.ahead < 2 ^ 24) × ((c.state ≡ Processing) ⊎ (c.state ≡ Waiting))

-- what a step wants: without a result, more
abbrev pub wants_of : Option Wants → Wants
wants_of None = Again
wants_of (Some wants) = wants
