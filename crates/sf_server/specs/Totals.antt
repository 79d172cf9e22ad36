-- What a server prints when it ends.
use Rattle.std.specs.Prelude.{◌≡◌, ◌+◌, ◌-◌, ℕ, nat_eq, Bool, true, if◌then◌else◌, Option, Some, None, is_some, List, [], ◌∷◌, ◌++◌, codes}
use Rattle.std.specs.List.{count_by}
use Rattle.std.specs.Fmt.{decimal}
use Rattle.std.specs.Io.KnownBytes.{Appends}
use Rattle.sf_call.specs.declared.record.Record.{Record}
use Rattle.sf_book.specs.Books.{is_call}
use Rattle.sf_core.specs.Cores.{CoreView}
use Rattle.sf_core.specs.Histories.{IsHistory}
use Rattle.sf_audit.specs.declared.transcript.Transcript.{Transcript}
use Rattle.sf_audit.specs.Audits.{AgreesWith}
use Rattle.sf_workers.specs.declared.lines.Ended.{Ended}
use Rattle.sf_workers.specs.Streams.{HasServed}
use Rattle.sf_server.specs.declared.server.ServerFault.{ServerFault}
use Rattle.sf_server.specs.declared.server.ServerFault.TheVariants as fault

-- the result of the audit, and how many records are no longer kept, if any
abbrev pub audit_line : ℕ → List ℕ
audit_line folded =
    if nat_eq folded 0 then codes "audit ok" ++ 10 ∷ []
    else (codes "audit ok, folded " ++ decimal folded) ++ 10 ∷ []

abbrev pub totals_text : (sessions calls folded : ℕ) → List ℕ
totals_text sessions calls folded =
    ((codes "sessions " ++ (decimal sessions ++ (codes " calls " ++ decimal calls))) ++ 10 ∷ [])
    ++ audit_line folded

-- the audit fails only if transcripts and history disagree
abbrev pub IsTellFault : CoreView → List Transcript → ServerFault → Type 0
IsTellFault core transcripts fault.Audit = ¬ AgreesWith core.records core.folded transcripts
IsTellFault core transcripts fault.Reported = ⊥
IsTellFault core transcripts fault.OutOfMemory = ⊥
IsTellFault core transcripts fault.Unserved = ⊥
IsTellFault core transcripts fault.Stream = Unit {0}

-- the fault after which a part may have been written
abbrev pub IsStream : ServerFault → Type 0
IsStream fault.Stream = Unit {0}
IsStream _ = ⊥

-- the number of streams that load a folder: one, if there is a folder
abbrev pub loads_of : {A : Type 0} → Option A → ℕ
loads_of None = 0
loads_of (Some folder) = 1

-- as many streams as requested, besides those that load a folder
abbrev pub AreAllStreams : (requested : Option ℕ) → (loads streams : ℕ) → Type 0
AreAllStreams None loads streams = Unit {0}
AreAllStreams (Some sessions) loads streams = streams ≡ sessions + loads

-- A server has served all requested streams on one core.
pub record HasServedAll (requested : Option ℕ) (loads : ℕ) (ended : Ended) : Type 0 where
  pub streams : ℕ
  pub served : HasServed (is_some requested) streams ended
  pub all : AreAllStreams requested loads streams

-- A server has served all requested streams. The transcripts of their sessions agree with the
-- core's records. The totals were written. They count these sessions, but for the one that loads a
-- folder, and the calls.
pub record HasWrittenTotals (requested : Option ℕ) (loads : ℕ) (old new : Option (List ℕ)) : Type 0
  where
    pub ended : Ended
    pub served : HasServedAll requested loads ended
    pub agree : AgreesWith ended.core.records ended.core.folded ended.transcripts.items
    pub wrote : (h : List Record) → IsHistory ended.core h → Appends old new
        (totals_text (ended.sessions - loads) (count_by is_call h) ended.core.folded)

-- A server has ended. If a number of sessions was requested, it has written their totals, and else
-- nothing. Without that number it ends only if it was to end with its standard input.
abbrev pub HasServedToEnd : (requested : Option ℕ) → (until_eof : Bool) → (loads : ℕ)
    → (old new : Option (List ℕ)) → Type 0
HasServedToEnd None until_eof loads old new =
    (until_eof ≡ true) × (ended : Ended) × HasServedAll None loads ended × (new ≡ old)
HasServedToEnd (Some n) until_eof loads old new = HasWrittenTotals (Some n) loads old new
