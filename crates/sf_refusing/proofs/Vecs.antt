-- A vector for the bytes of an event.
use Rattle.std.proofs.Common.{ℕ, List, ◌<◌, ◌^◌, length, refl, arith}
use Rattle.std.specs.Global.{Vec}

-- a vector of these bytes, in place of another one
abbrev pub vec_of : {X : Type 0} → Vec X → (bytes : List ℕ) → length bytes < 2 ^ 63 → Vec ℕ
vec_of v bytes fits = record { ptr = v.ptr; len = length bytes; cap = length bytes; alloc = v.alloc; items = bytes; ok = (refl, omega arith); small = fits }
