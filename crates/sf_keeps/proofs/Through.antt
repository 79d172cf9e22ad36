-- Lookups after a test, and through another lookup.
use Rattle.std.specs.Prelude.{◌≡◌, ◌⊎◌, Bool, true, false, cond, option_map, option_and_then, Option, Some, None, refl}
use Rattle.std.proofs.Common.{inl, inr}

-- the choice of a test, and its result
pub by_test : {A : Type 0} (b : Bool) {x y z : A} → cond b x y ≡ z → ((b ≡ true) × (x ≡ z)) ⊎ ((b ≡ false) × (y ≡ z))
by_test true e = inl (refl, e)
by_test false e = inr (refl, e)

-- an entry that exists existed before
pub was_there : {A : Type 0} (b : Bool) {x : Option A} {v : A} → cond b None x ≡ Some v → x ≡ Some v
was_there true e = cc
was_there false e = e

pub was_none : {A : Type 0} (b : Bool) (v : A) {x : Option A} → cond b (Some v) x ≡ None → x ≡ None
was_none true v e = cc
was_none false v e = e

-- an entry that did not exist does not exist
pub none_still : {A : Type 0} (b : Bool) {x : Option A} → x ≡ None → cond b None x ≡ None
none_still true e = refl
none_still false e = e

-- ---- a lookup through another one finds an existing entry
module _ {A B : Type 0} where
  pub found_through : {f : A → Option B} (o : Option A) {v : B} → option_and_then f o ≡ Some v → (x : A) × (o ≡ Some x) × (f x ≡ Some v)
  found_through None e = cc
  found_through (Some x) e = (x, refl, e)

  pub found_as : {f : A → B} (o : Option A) {v : B} → option_map f o ≡ Some v → (x : A) × (o ≡ Some x) × (f x ≡ v)
  found_as None e = cc
  found_as {f = f} (Some x) {v = v} e = let same : f x ≡ v = cc in (x, refl, same)

-- ---- present or absent
module _ {A : Type 0} where
  pub some_there : (o : Option A) → (o ≡ None → ⊥) → (x : A) × (o ≡ Some x)
  some_there None some = absurd (some refl)
  some_there (Some x) some = (x, refl)

  pub none_there : (o : Option A) → ((x : A) → o ≡ Some x → ⊥) → o ≡ None
  none_there None none = refl
  none_there (Some x) none = absurd (none x refl)
