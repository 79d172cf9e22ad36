-- The steps of calls, in the words of a log, beyond what the promise says.
use Rattle.std.specs.Prelude.{◌≡◌, ◌≢◌, ◌<◌, ◌⊎◌, ◌++◌, ◌∷◌, ℕ, true, List, [], filter_map}
use Rattle.std.specs.List.{AllByRecursion}
use Rattle.std.specs.List.Sorted.{IsStrictlySortedBy}
use Rattle.std.specs.Ordering.{nat_cmp}
use Rattle.sf_call.specs.declared.request.Request.{Request}
use Rattle.sf_call.specs.declared.record.Record.{Record}
use Rattle.sf_call.specs.declared.record.Record.TheVariants.{Did, Left}
use Rattle.sf_call.specs.Histories.{replay}
use Rattle.sf_core.specs.Progress.{record_number, is_write}
use Rattle.sf_engine.specs.Deciding.{WalkHasStopped, AreSure}
use Rattle.sf_engine.specs.Promise.{Entry, CallMoved, CallDecided, linearization, of_session, IsPending, IsDueTo}

-- the record is of a pending call of another session
abbrev pub IsOfOthersCall : List Entry → ℕ → Record → Type 0
IsOfOthersCall front s (Did number z moment request reply) =
    (z ≢ s) × IsPending front (Did number z moment request reply)
IsOfOthersCall front s (Left z) = ⊥

-- A call of the session takes effect, and its resolution has stopped. The records of the calls that
-- it helps precede its own, by rising number. A reply is out of memory only if the specified one
-- allocates.
pub record CarriesCallOut (front : List Entry) (s : ℕ) (added : List Record) : Type 0 where
  pub own : Record
  pub is_own : IsPending front own
  pub stopped : WalkHasStopped (replay (linearization front)) (of_session s front).call.moves own
  pub helped : List Record
  pub of_others : AllByRecursion (IsOfOthersCall front s) helped
  pub rising : IsStrictlySortedBy nat_cmp (filter_map record_number helped)
  pub records : added ≡ helped ++ own ∷ []
  pub sure : AreSure (linearization front) added

-- A move adds no record, and is not the first one of a WRITE; or it is the first one of a WRITE of
-- several blocks, which takes effect then. A decision finds the call's record, or the call takes
-- effect.
abbrev pub IsSteady : List Entry → Entry → Type 0
IsSteady front (CallMoved s m added) =
    ((added ≡ []) × ((request : Request) × IsDueTo front s request
    × (is_write request ≡ true → 0 < (of_session s front).call.moves)))
    ⊎ (((of_session s front).call.moves ≡ 0) × CarriesCallOut front s added)
IsSteady front (CallDecided s m added) = (added ≡ []) ⊎ CarriesCallOut front s added
IsSteady front _ = Unit {0}
