-- What a keeper and its tickets know, and their rule.
use Rattle.std.specs.Prelude.{◌≡◌, ℕ, List, [], ◌∷◌, ◌++◌, length, Some, slice_get, slice_set, true, false}
use mathlib.Core.Option.{some}
use lib.ListN.{get_elem?}
use Rattle.atomic_table.specs.Seated.{TableId}
use Rattle.sf_roll.specs.declared.rule.Knowledge.{Knowledge}

-- a name that no table has
abbrev pub no_table : TableId
no_table = record {
  words = 0;
  slots = 0;
  views_name = 0;
  atom = 0;
  block = 0;
  offset = 0;
  slot_names = [];
}

-- the tables of a roll's entries and of its log
pub record RollTables : Type 0 where
  pub entries : TableId
  pub log : TableId

abbrev pub roll_tables : TableId → TableId → RollTables
roll_tables entries log = record { entries = entries; log = log }

-- what a seat knows: all entries, one of them, or nothing
abbrev pub keeper : {E : Type 0} → E → List E → Knowledge E
keeper fresh all = record { keeps = true; all = all; holds = false; place = 0; own = fresh }

abbrev pub ticket : {E : Type 0} → ℕ → E → Knowledge E
ticket place own = record { keeps = false; all = []; holds = true; place = place; own = own }

abbrev pub nobody : {E : Type 0} → E → Knowledge E
nobody fresh = record { keeps = false; all = []; holds = false; place = 0; own = fresh }

abbrev pub no_ticket : {E : Type 0} → E → Knowledge E → Knowledge E
no_ticket fresh v = nobody fresh

abbrev pub with_entry : {E : Type 0} → E → Knowledge E → Knowledge E
with_entry fresh v = keeper fresh (v.all ++ fresh ∷ [])

abbrev pub new_ticket : {E : Type 0} → E → Knowledge E → Knowledge E
new_ticket fresh v = ticket (length v.all) fresh

-- the keeper, with the knowledge of a ticket
abbrev pub with_ticket : {E : Type 0} → Knowledge E → Knowledge E → Knowledge E
with_ticket v w =
    record { keeps = v.keeps; all = v.all; holds = w.holds; place = w.place; own = w.own }

abbrev pub without_ticket : {E : Type 0} → E → Knowledge E → Knowledge E
without_ticket fresh v = keeper fresh v.all

abbrev pub its_ticket : {E : Type 0} → Knowledge E → Knowledge E
its_ticket v = ticket v.place v.own

-- The ticket's entry is the one at its place. The second part of a seat's view is its slots, of
-- which it has none.
abbrev pub compares : {E C : Type 0} → Knowledge E × C → Knowledge E × C → Type 0
compares m n = (n ≡ m) × (slice_get m.0.all m.0.place ≡ Some m.0.own)

abbrev pub changed_to : {E : Type 0} → Knowledge E → E → Knowledge E
changed_to v e = record {
  keeps = v.keeps;
  all = slice_set v.all v.place e;
  holds = v.holds;
  place = v.place;
  own = e;
}

abbrev pub changes : {E C : Type 0} → (E → E) → Knowledge E × C → Knowledge E × C → Type 0
changes becomes m n = n ≡ (changed_to m.0 (becomes m.0.own), m.1)

-- What holds for the seat of this number: only the keeper knows all entries, and only its owner
-- knows an entry.
abbrev pub FitsSeat : {E : Type 0} → ℕ → List E → (ℕ → ℕ) → ℕ → Knowledge E → Type 0
FitsSeat seat all owner by v =
    (v.keeps ≡ true → (by ≡ seat) × (v.all ≡ all))
    × (v.holds ≡ true → (by ≡ owner v.place) × (slice_get all v.place ≡ Some v.own))

-- there are one keeper, one list of entries and one owner of each, that all seats fit
abbrev pub AreKept : {E : Type 0} → List (Knowledge E) → Type 0
AreKept {E = E} views = (seat : ℕ) × (all : List E) × (owner : ℕ → ℕ)
    × ((by : ℕ) (v : Knowledge E) → get_elem? views by ≡ some v → FitsSeat seat all owner by v)
