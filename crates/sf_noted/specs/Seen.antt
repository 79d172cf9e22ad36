-- What the prefix of a token has of a core's history.
use Rattle.std.specs.Prelude.{◌≡◌, ℕ, List, ◌++◌}
use Rattle.sf_call.specs.declared.record.Record.{Record}
use Rattle.sf_core.specs.declared.step.Step.{Step}
use Rattle.sf_core.specs.declared.step.Step.TheVariants.{Answered}
use Rattle.sf_audit.specs.Audits.{CallRecord, call_records, IsIn}
use Rattle.sf_noted.specs.Pages.{Page}

-- the session's calls in the prefix are those whose replies it received, in order
abbrev pub HasSeen : List Record → ℕ × Page → Type 0
HasSeen seen x = call_records x.0 seen ≡ x.1.told

-- A step that answers the session's call extends the prefix to it. Other steps leave the prefix.
abbrev pub StepShows : Step → ℕ × Page → (seen seen' : List Record) → Type 0
StepShows (Answered given) x seen seen' = HasSeen seen' x
StepShows _ x seen seen' = seen' ≡ seen

-- One call precedes another in a history. Each call has its session's number.
abbrev pub Precedes : List Record → (first second : ℕ × CallRecord) → Type 0
Precedes history first second = (prefix : List Record) × (suffix : List Record)
    × (history ≡ prefix ++ suffix) × IsIn (call_records first.0 prefix) first.1
    × IsIn (call_records second.0 suffix) second.1
