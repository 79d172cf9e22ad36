-- The names that a directory lists.
use Rattle.std.specs.Prelude.{◌≡◌, ℕ, List, [], ◌++◌, map, reverse, Bool, true, false, Option, Some, None}
use Rattle.std.specs.Global.{Vec}
use Rattle.std.specs.List.Sorted.{IsPermutation, IsSorted}
use Rattle.std.specs.declared.cmp.Ordering.{Ordering}

abbrev pub texts : List (Vec ℕ) → List (List ℕ)
texts names = map (λ (name : Vec ℕ). name.items) names

-- names were added
abbrev pub AddsNames : (before after : List (Vec ℕ)) → Type 0
AddsNames before after = (given : List (List ℕ)) × (texts after ≡ texts before ++ given)

-- the directory listed these names, if its names are known
abbrev pub GivesNames : (old : Option (List (List ℕ))) → List (List ℕ) → (new : Option (List (List ℕ))) → Type 0
GivesNames None names new = Unit {0}
GivesNames (Some old) names None = ⊥
GivesNames (Some old) names (Some new) = old ≡ names ++ new

-- the directory lists no more names
abbrev pub ListsNoMore : Option (List (List ℕ)) → Type 0
ListsNoMore None = Unit {0}
ListsNoMore (Some names) = names ≡ []

-- the next names were added; or there are none
abbrev pub ListsMore : Bool → (old new : Option (List (List ℕ))) → (before after : List (Vec ℕ)) → Type 0
ListsMore true old new before after =
    (given : List (List ℕ)) × (texts after ≡ texts before ++ given) × GivesNames old given new
ListsMore false old new before after = (texts after ≡ texts before) × ListsNoMore old

-- these are all names of the directory
abbrev pub HasAll : Option (List (List ℕ)) → List (Vec ℕ) → Type 0
HasAll None names = Unit {0}
HasAll (Some all) names = texts names ≡ all

-- these are all names of the directory, each once, in reverse order
pub record IsReverseListing (cmp : Vec ℕ → Vec ℕ → Ordering) (listing : Option (List (List ℕ)))
    (names : List (Vec ℕ)) : Type 0 where
  pub listed : List (Vec ℕ)
  pub sorted : List (Vec ℕ)
  pub all : HasAll listing listed
  pub same : IsPermutation listed sorted
  pub in_order : IsSorted cmp sorted
  pub reversed : names ≡ reverse sorted

-- no name remains in the innermost directory, and there is no outer one
abbrev pub IsAtEnd : {L : Type 0} → (names : List (Vec ℕ)) → (outer : List L) → Type 0
IsAtEnd names outer = (names ≡ []) × (outer ≡ [])
