-- A client of an engine, as contracts see it.
use Rattle.std.specs.Prelude.{ℕ}

-- the engine, and the timestamp of all requests
pub record AskerView (E : Type 0) : Type 0 where
  pub engine : E
  pub moment : ℕ
