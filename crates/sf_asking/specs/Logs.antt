-- What the methods of an engine append to its log. `has_log` is that of the trait `Sftp`.
use Rattle.std.specs.Prelude.{◌≡◌, ◌≤◌, ◌-◌, ◌^◌, ◌++◌, ◌∷◌, ℕ, List, [], length, true, Result, OnErr}
use Rattle.std.specs.Global.{Vec}
use Rattle.sf_engine.specs.declared.event.Event.{Event}
use Rattle.sf_engine.specs.declared.event.Event.TheVariants as event
use Rattle.sf_engine.specs.declared.event.Happened.{Happened}
use Rattle.sf_engine.specs.declared.event.EngineFault.{EngineFault}
use Rattle.sf_engine.specs.Promise.{Entry, event_of, result_of, of_session, IsKnown, IsUnsent, AreTurnsOf, continues}

module _ {E : Type 0} (has_log : E → List Entry → Type 0) where
  -- An event changed an engine, with this result. An error changed nothing.
  abbrev pub EventLeads : E → Event → Result Happened EngineFault → E → Type 0
  EventLeads old event result new = ((log : List Entry) → has_log old log → (x : Entry)
      × (event_of x ≡ event) × (result_of x ≡ result) × has_log new (log ++ x ∷ []))
      × OnErr result (new ≡ old)

  -- the same for the event `Feed` of any vector of these bytes
  abbrev pub FeedsBy : E → ℕ → List ℕ → Result Happened EngineFault → E → Type 0
  FeedsBy old session bytes result new =
      (fed : Vec ℕ) → fed.items ≡ bytes → EventLeads old (event.Feed session fed) result new

  -- turns; the last one had this result
  abbrev pub TurnsLead : ℕ → ℕ → E → Result Happened EngineFault → E → Type 0
  TurnsLead session moment old result new = (log : List Entry) → has_log old log
      → (entries : List Entry) × AreTurnsOf session moment result entries
      × has_log new (log ++ entries) × (continues result ≡ true → 2 ^ 64 - 1 ≤ length entries)

  -- the session's output that isn't sent yet
  abbrev pub HoldsOutput : E → ℕ → List ℕ → Type 0
  HoldsOutput engine session output = (log : List Entry) → has_log engine log
      → IsKnown log session
      × IsUnsent (of_session session log).wrote (of_session session log).sent output

  -- the session is unknown
  abbrev pub HasNoSession : E → ℕ → Type 0
  HasNoSession engine session = (log : List Entry) → has_log engine log → ¬ IsKnown log session
