-- The oldest retained record is dropped.
use Rattle.std.specs.Prelude.{◌≡◌, ℕ, ◌+◌, ◌<◌, ◌≤◌, List, length, drop, Option, Some, None, slice_set}
use Rattle.std.specs.Option.{IfSome}
use Rattle.std.proofs.Common.{arith, length-set, length-drop}
use Rattle.sf_call.specs.declared.record.Record.{Record}

-- the retained entries, after some at the start were dropped
abbrev pub IsKept : Option ℕ → ℕ → ℕ → Type 0
IsKept keep len gone = IfSome keep (λ n. (0 < n) × (len ≤ gone + n))

one_less : (keep : Option ℕ) (len gone : ℕ) → IsKept keep len gone → IsKept keep len (gone + 1)
one_less None len gone h = h
one_less (Some n) len gone h = (h.0, omega (arith, h.1))

pub kept_on : (es : List Record) (gone : ℕ) (v : Record) (keep : Option ℕ) → 0 < length (drop gone es) → IsKept keep (length es) gone
    → (gone + 1 ≤ length (slice_set es gone v)) × IsKept keep (length (slice_set es gone v)) (gone + 1)
kept_on es gone v keep some kept =
    let same : length (slice_set es gone v) ≡ length es = length-set es gone v in
    rw same (omega (arith, length-drop gone es, some), one_less keep (length es) gone kept)
