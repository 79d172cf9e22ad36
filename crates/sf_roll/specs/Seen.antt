-- Prefixes of a log that only grows, and the rule of its tokens.
use Rattle.std.specs.Prelude.{◌≡◌, ℕ, List, [], ◌++◌, true, false}
use mathlib.Core.Option.{some}
use lib.ListN.{get_elem?}
use Rattle.sf_roll.specs.declared.log_rule.LogView.{LogView}

-- the second list begins with the first
abbrev pub IsPrefixOf : {T : Type 0} → List T → List T → Type 0
IsPrefixOf {T = T} prefix whole = (suffix : List T) × (whole ≡ prefix ++ suffix)

-- a seat that writes the log, and one that knows a prefix of it
abbrev pub writer : {T : Type 0} → List T → LogView T
writer log = record { writes = true; log = log; beside = [] }

abbrev pub reader : {T : Type 0} → List T → LogView T
reader log = record { writes = false; log = log; beside = [] }

abbrev pub reader_right : {T : Type 0} → LogView T → LogView T
reader_right v = reader v.log

-- the writer, with the prefix of a reader
abbrev pub with_reader : {T : Type 0} → LogView T → LogView T → LogView T
with_reader v w = record { writes = v.writes; log = v.log; beside = w.log }

abbrev pub without_reader : {T : Type 0} → LogView T → LogView T
without_reader v = record { writes = v.writes; log = v.log; beside = [] }

-- The reader's prefix is a prefix of the log. The second part of a seat's view is its slots, of
-- which it has none.
abbrev pub compares : {T C : Type 0} → LogView T × C → LogView T × C → Type 0
compares m n = (n ≡ (without_reader m.0, m.1)) × IsPrefixOf m.0.beside m.0.log

abbrev pub grown : {T : Type 0} → LogView T → List T → LogView T
grown v added = record { writes = v.writes; log = v.log ++ added; beside = v.beside }

abbrev pub grows : {T C : Type 0} → (List T → List T → Type 0) → LogView T × C → LogView T × C → Type 0
grows {T = T} adds m n = (added : List T) × (n ≡ (grown m.0 added, m.1)) × adds m.0.log added

-- What holds for the seat of this number. Only the writer writes, and it knows the whole log. What
-- any seat knows is a prefix of that.
abbrev pub FitsLog : {T : Type 0} → ℕ → List T → ℕ → LogView T → Type 0
FitsLog seat log by v =
    (v.writes ≡ true → (by ≡ seat) × (v.log ≡ log)) × IsPrefixOf v.log log × IsPrefixOf v.beside log

-- there are one writer and one log that all seats fit
abbrev pub AreSeen : {T : Type 0} → List (LogView T) → Type 0
AreSeen {T = T} views = (seat : ℕ) × (log : List T)
    × ((by : ℕ) (v : LogView T) → get_elem? views by ≡ some v → FitsLog seat log by v)
