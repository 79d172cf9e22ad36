-- Waits for a stream.
use Rattle.std.specs.Prelude.{◌≡◌, ℕ, List, [], ◌∷◌, ◌++◌, Option, Some, None, Result}
use Rattle.std.specs.List.{AllByRecursion}
use Rattle.sf_session.specs.declared.cause.Cause.{Cause}
use Rattle.sf_session.specs.declared.fault.ServeFault.{ServeFault}
use Rattle.sf_connection.specs.Progress.{Progress}
use Rattle.sf_connection.specs.declared.connection.Connection.{Connection}
use Rattle.sf_connection.specs.declared.connection.Wants.{Wants}
use Rattle.sf_connection.specs.declared.connection.Wants.TheVariants.{Read, Ended}
use Rattle.sf_connection.specs.Streams.{StreamView, WaitsView}
use Rattle.sf_connection.specs.Connections.{HasPassed, IsServing, AnswersAll, Returns}

-- these waits are appended to the record, if it is exposed
abbrev pub RecordsWaits : Option (List StreamView) → Option (List StreamView) → List StreamView
    → Type 0
RecordsWaits None new waits = Unit {0}
RecordsWaits (Some old) None waits = ⊥
RecordsWaits (Some old) (Some new) waits = new ≡ old ++ waits

-- the record of a wait: only those for input alone are recorded
abbrev pub wait_made : Wants → StreamView → List StreamView
wait_made Read now = now ∷ []
wait_made _ now = []

-- Over this stream a session has passed that answers all: the bytes read are complete packets and
-- an incomplete one, and the bytes written are the replies to these packets.
abbrev pub IsPromptWait : (from now : StreamView) → Type 0
IsPromptWait from now = (p : Progress) × HasPassed from now p × AnswersAll p

-- whenever a thread waited for input alone, all was answered
abbrev pub WaitsPromptly : StreamView → WaitsView → WaitsView → Type 0
WaitsPromptly from waits waits' = (made : List StreamView)
    × RecordsWaits waits.made waits'.made made × AllByRecursion (IsPromptWait from) made

-- the session is served on, or has ended
abbrev pub HasRounded : {H S : Type 0} → Option (Result Cause ServeFault) → (held work : ℕ)
    → (from now : StreamView) → Connection H S → (p p' : Progress) → Type 0
HasRounded None held work from now c p p' = IsServing held work from now c p'
HasRounded (Some outcome) held work from now c p p' =
    Returns (Ended outcome) held work from now c p p'
