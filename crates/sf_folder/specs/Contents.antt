-- The bytes of a file, and the pieces that are read of it.
use Rattle.std.specs.Prelude.{◌≡◌, ◌<◌, ◌≤◌, ◌+◌, ℕ, List, length, take, drop, slice_index, Option, Some, None}

-- these are the file's bytes at an offset
abbrev pub AreBytesAt : List ℕ → ℕ → List ℕ → Type 0
AreBytesAt bytes offset part = take (length part) (drop offset bytes) ≡ part

-- each byte from one offset to another is 0, or behind the end
abbrev pub AreZeros : List ℕ → ℕ → ℕ → Type 0
AreZeros bytes from to = (k : ℕ) → from ≤ k → k < to → slice_index bytes k ≡ 0

-- each byte from an offset on is 0
abbrev pub IsZeroFrom : List ℕ → ℕ → Type 0
IsZeroFrom bytes from = (k : ℕ) → from ≤ k → slice_index bytes k ≡ 0
