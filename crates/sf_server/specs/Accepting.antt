-- Which connections a server accepts, and how many.
use Rattle.std.specs.Prelude.{◌≡◌, ◌<◌, ℕ, List, [], ◌∷◌, ◌++◌, length, filter_map, replicate, Option, Some, None}
use Rattle.sf_pool.specs.SessionLanes.{Notes}
use Rattle.sf_server.specs.declared.accepting.Stopped.{Stopped}
use Rattle.sf_server.specs.declared.accepting.Stopped.TheVariants as stopped

-- nothing was given, n times
abbrev pub nothing : {L : Type 0} → ℕ → List (Option L)
nothing n = replicate n None

-- the connections among what was given
abbrev pub lines_in : {L : Type 0} → List (Option L) → List L
lines_in asked = filter_map (λ x. x) asked

-- Nothing was given some times, and then the next connection.
abbrev pub GivesNext : {L : Type 0} → (given given' : Option (List (Option L))) → L → Type 0
GivesNext given given' line = (n : ℕ) × Notes given given' (nothing n ++ Some line ∷ [])

-- Nothing was given any more.
abbrev pub GivesNone : {L : Type 0} → (given given' : Option (List (Option L))) → Type 0
GivesNone given given' = (n : ℕ) × Notes given given' (nothing n)

-- These connections were taken, of what was given: each once and in order. They are the requested
-- number; or fewer, and one more was given when the taker had ended, or no more was given.
abbrev pub TakesThese : {L : Type 0} → (most : ℕ) → Stopped → (asked : List (Option L)) → List L
    → Type 0
TakesThese most stopped.All asked lines = (length lines ≡ most) × (lines_in asked ≡ lines)
TakesThese {L = L} most stopped.Ended asked lines =
    (length lines < most) × ((last : L) × (lines_in asked ≡ lines ++ last ∷ []))
TakesThese most stopped.Closed asked lines = (length lines < most) × (lines_in asked ≡ lines)

abbrev pub TakesLines : {L : Type 0} → (most : ℕ) → Stopped
    → (given given' : Option (List (Option L)))
    → (taken taken' : Option (List L)) → Type 0
TakesLines {L = L} most why given given' taken taken' =
    (asked : List (Option L)) × (lines : List L) × Notes given given' asked
    × Notes taken taken' lines × TakesThese most why asked lines
