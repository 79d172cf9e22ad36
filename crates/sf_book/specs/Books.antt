-- The value of a book in contracts.
use Rattle.std.specs.Prelude.{ℕ, ◌+◌, ◌-◌, ◌^◌, min, Bool, true, false, List, [], ◌∷◌, ◌++◌, length, take, drop, Option, Some, None}
use Rattle.std.specs.List.{count_by}
use Rattle.sf_call.specs.declared.record.Record.{Record}
use Rattle.sf_call.specs.declared.record.Record.TheVariants.{Did, Left}

-- the retained records, oldest first; the number of records that fit without allocation; the most
-- that are retained, if not all; and the number of dropped calls
pub record BookView : Type 0 where
  pub records : List Record
  pub room : ℕ
  pub keep : Option ℕ
  pub folded : ℕ

-- whether a record is of a call
abbrev pub is_call : Record → Bool
is_call (Did number session moment request reply) = true
is_call (Left session) = false

-- the number of records to drop
abbrev pub excess : Option ℕ → List Record → ℕ
excess None records = 0
excess (Some n) records = length records - n

-- A record is added at the end. The oldest are dropped beyond the limit, and their calls are
-- counted.
abbrev pub kept_of : Option ℕ → List Record → List Record
kept_of keep records = drop (excess keep records) records

abbrev pub gone_of : Option ℕ → List Record → List Record
gone_of keep records = take (excess keep records) records

abbrev pub put : BookView → Record → BookView
put b entry = record {
  records = kept_of b.keep (b.records ++ entry ∷ []);
  room = b.room - 1;
  keep = b.keep;
  folded =
      min (b.folded + count_by is_call (gone_of b.keep (b.records ++ entry ∷ []))) (2 ^ 64 - 1);
}
