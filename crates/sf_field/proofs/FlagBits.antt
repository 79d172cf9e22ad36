-- Decoding the bits of flags yields the flags, by trying all of them.
use Rattle.std.proofs.Common.{◌≡◌, ◌<◌, ◌^◌, Bool, true, false, refl, arith}
use Rattle.std.specs.Prelude.{◌&&◌, nat_lt}
use Rattle.std.proofs.lemmas.Bool.{ltb-true}
use Rattle.sf_field.specs.declared.open_flags.OpenFlags.{OpenFlags}
use Rattle.sf_field.specs.OpenFlags.{has, open_flags, bits_of}

same : Bool → Bool → Bool
same true b = b
same false true = false
same false false = true

same_is : (a b : Bool) → same a b ≡ true → a ≡ b
unfolding same
same_is true true e = refl
same_is true false e = absurd cc
same_is false true e = absurd cc
same_is false false e = refl

pub both : (a b : Bool) → (a && b) ≡ true → (a ≡ true) × (b ≡ true)
both true true e = (refl, refl)
both true false e = absurd cc
both false b e = absurd cc

-- whether a test holds for both true and false
each : (Bool → Bool) → Bool
each test = test true && test false

holds : (test : Bool → Bool) → each test ≡ true → (b : Bool) → test b ≡ true
unfolding each
holds test e true = (both (test true) (test false) e).0
holds test e false = (both (test true) (test false) e).1

flags_by : Bool → Bool → Bool → Bool → Bool → Bool → OpenFlags
flags_by r w a c t x = record { read = r; write = w; append = a; create = c; truncate = t; exclusive = x }

is_said : Bool → Bool → Bool → Bool → Bool → Bool → Bool
is_said r w a c t x =
    let bits = bits_of (flags_by r w a c t x) in
    same (has bits 0x1) r && (same (has bits 0x2) w && (same (has bits 0x4) a && (same (has bits 0x8) c && (same (has bits 0x10) t && (same (has bits 0x20) x && nat_lt bits 64)))))

all_said : each (λ r. each (λ w. each (λ a. each (λ c. each (λ t. each (λ x. is_said r w a c t x)))))) ≡ true
unfolding each is_said same flags_by
all_said = refl

said : (r w a c t x : Bool) → is_said r w a c t x ≡ true
said r w a c t x =
    holds (λ x. is_said r w a c t x) (holds (λ t. each (λ x. is_said r w a c t x)) (holds (λ c. each (λ t. each (λ x. is_said r w a c t x))) (holds (λ a. each (λ c. each (λ t. each (λ x. is_said r w a c t x))))
    (holds (λ w. each (λ a. each (λ c. each (λ t. each (λ x. is_said r w a c t x))))) (holds (λ r. each (λ w. each (λ a. each (λ c. each (λ t. each (λ x. is_said r w a c t x)))))) all_said r) w) a) c) t) x

pub bits_say : (flags : OpenFlags) → (open_flags (bits_of flags) ≡ flags) × (bits_of flags < 2 ^ 32)
unfolding is_said flags_by
bits_say flags =
    let bits = bits_of flags in
    let p = both (same (has bits 0x1) flags.read) _ (said flags.read flags.write flags.append flags.create flags.truncate flags.exclusive) in
    let q = both (same (has bits 0x2) flags.write) _ p.1 in
    let s = both (same (has bits 0x4) flags.append) _ q.1 in
    let t = both (same (has bits 0x8) flags.create) _ s.1 in
    let u = both (same (has bits 0x10) flags.truncate) _ t.1 in
    let v = both (same (has bits 0x20) flags.exclusive) (nat_lt bits 64) u.1 in (
      rw (same_is (has bits 0x1) flags.read p.0, same_is (has bits 0x2) flags.write q.0, same_is (has bits 0x4) flags.append s.0, same_is (has bits 0x8) flags.create t.0, same_is (has bits 0x10) flags.truncate u.0, same_is (has bits 0x20) flags.exclusive v.0) refl,
      omega (arith, ltb-true bits 64 v.1),
    )
