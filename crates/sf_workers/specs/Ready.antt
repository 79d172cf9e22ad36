-- No public clause cites this module.
-- Queues of keys.
use Rattle.std.specs.Prelude.{◌≡◌, ◌==◌, ℕ, List, length, Bool, false, if◌then◌else◌, count_by, slice_index_or}

-- Each key is in the queue once, or not at all. The flags say which ones are.
pub record IsKeyQueue (queue : List ℕ) (flags : List Bool) : Type 0 where
  pub once : (key : ℕ) → count_by (λ k. k == key) queue
      ≡ (if slice_index_or flags key false then 1 else 0)
  pub many : length queue ≡ count_by (λ flag. flag) flags
