-- What lookups leave unchanged in a store.
use Rattle.std.specs.Prelude.{◌<◌, ◌≤◌, ◌+◌, ◌-◌, ◌^◌, ℕ, zero, suc, min}
use Rattle.std.proofs.Common.{ap, arith}
use Rattle.sf_inode.specs.Stores.{StoreState}
use Rattle.sf_walk.specs.Served.{LookedUp, MakesLookUps, after_look_ups}

looks_more : (k : ℕ) (s : StoreState) → s.look_ups < 2 ^ 64 → (s.look_ups ≤ (after_look_ups k s).look_ups) × ((after_look_ups k s).look_ups ≤ s.look_ups + k)
looks_more zero s fits = (omega arith, omega arith)
looks_more (suc k) s fits =
    let h = looks_more k s fits in
    let x = (after_look_ups k s).look_ups in
    let a : s.look_ups ≤ min (x + 1) (2 ^ 64 - 1) = omega (arith, h.0, fits) in
    let b : min (x + 1) (2 ^ 64 - 1) ≤ s.look_ups + suc k = omega (arith, h.1) in
    (a, b)

fits_more : (k : ℕ) (s : StoreState) → s.look_ups < 2 ^ 64 → (after_look_ups k s).look_ups < 2 ^ 64
fits_more zero s fits = fits
fits_more (suc k) s fits = let x = (after_look_ups k s).look_ups in let a : min (x + 1) (2 ^ 64 - 1) < 2 ^ 64 = omega arith in a

pub looks_between : (s new : StoreState) (most : ℕ) → s.look_ups < 2 ^ 64 → MakesLookUps s new most → (s.look_ups ≤ new.look_ups) × (new.look_ups ≤ s.look_ups + most)
looks_between s new most fits looks =
    let h = looks_more looks.count s fits in
    let e = looks.look_ups in
    let few = looks.few in
    (omega (arith, h.0, e), omega (arith, h.1, e, few))

pub looks_fit : (s new : StoreState) (most : ℕ) → MakesLookUps s new most → s.look_ups < 2 ^ 64 → new.look_ups < 2 ^ 64
looks_fit s new most looks fits = let f = fits_more looks.count s fits in let e = looks.look_ups in omega (arith, f, e)

-- only lookups were made
pub looks_of_looked : (s new : StoreState) (most : ℕ) → LookedUp s new most → MakesLookUps s new most
looks_of_looked s new most looked = record { count = looked.count; few = looked.few; look_ups = ap (λ (x : StoreState). x.look_ups) looked.state }
