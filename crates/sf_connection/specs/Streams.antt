-- What passes over a stream.
use Rattle.std.specs.Prelude.{ℕ, List, Option, None}

-- a stream's input not yet read and its output so far, if exposed, and its number of errors
pub record StreamView : Type 0 where
  pub incoming : Option (List ℕ)
  pub outgoing : Option (List ℕ)
  pub failed : ℕ

-- a stream as it was each time that a thread waited for input alone, if recorded, and how often a
-- thread can still wait
pub record WaitsView : Type 0 where
  pub made : Option (List StreamView)
  pub left : ℕ

abbrev pub no_waits : WaitsView
no_waits = record { made = None; left = 0 }
