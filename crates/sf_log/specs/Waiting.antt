-- Lines that wait to be written to a log.
use Rattle.std.specs.Prelude.{◌≡◌, ◌⊎◌, ◌+◌, ◌-◌, ◌^◌, ◌==◌, ◌&&◌, ℕ, List, [], ◌∷◌, ◌++◌, length, take, drop, slice_index, min, Bool, true, false, not, nat_eq, if◌then◌else◌, Option}
use Rattle.std.specs.Io.KnownBytes.{Appends}
use Rattle.sf_log.specs.declared.line.LogLine.{LogLine}
use Rattle.sf_log.specs.Lines.{log_line_bytes}

-- the bytes that wait, whether what was written ends within a line, and how many lines were lost
pub record WaitingView : Type 0 where
  pub waiting : List ℕ
  pub cut : Bool
  pub lost : ℕ

abbrev pub no_lines : WaitingView
no_lines = record { waiting = []; cut = false; lost = 0 }

-- more lost lines are not counted
abbrev pub most_lost : ℕ
most_lost = 2 ^ 64 - 1

abbrev pub is_newline : ℕ → Bool
is_newline byte = byte == 10

-- whether what was written ends within a line, once these bytes are written too
abbrev pub is_cut_after : Bool → List ℕ → Bool
is_cut_after cut bytes =
    if nat_eq (length bytes) 0 then cut else not (is_newline (slice_index bytes (length bytes - 1)))

-- a line, which begins after a newline if the last one was cut
abbrev pub line_after : Bool → LogLine → List ℕ
line_after true line = 10 ∷ log_line_bytes line
line_after false line = log_line_bytes line

-- the next byte that waits is not the rest of a line that was cut
abbrev pub begins_after_cut : WaitingView → Bool
begins_after_cut w = w.cut && nat_eq (length w.waiting) 0

-- so many lines were lost
abbrev pub loses : ℕ → WaitingView → WaitingView
loses count w = record w { lost = min (w.lost + count) most_lost }

-- the line waits behind the others, or is lost
abbrev pub AddsLine : LogLine → WaitingView → WaitingView → Type 0
AddsLine line old new =
    (new ≡ record old { waiting = old.waiting ++ line_after (begins_after_cut old) line })
    ⊎ (new ≡ loses 1 old)

-- nothing waits any more, and some lines were lost
abbrev pub LosesAll : (old new : WaitingView) → Type 0
LosesAll old new = (count : ℕ) × (new ≡ loses count (record old { waiting = [] }))

-- The first bytes were written. The others wait on, or are lost.
abbrev pub ForgetsFirst : ℕ → WaitingView → WaitingView → Type 0
ForgetsFirst n old new =
    (new.cut ≡ is_cut_after old.cut (take n old.waiting))
    × (((new.waiting ≡ drop n old.waiting) × (new.lost ≡ old.lost))
    ⊎ ((count : ℕ) × (new.waiting ≡ []) × (new.lost ≡ min (old.lost + count) most_lost)))

-- the output has some of the first bytes more, and nothing else
abbrev pub WritesLines : WaitingView → WaitingView → Option (List ℕ) → Option (List ℕ) → Type 0
WritesLines old new contents contents' =
    (n : ℕ) × Appends contents contents' (take n old.waiting) × ForgetsFirst n old new
