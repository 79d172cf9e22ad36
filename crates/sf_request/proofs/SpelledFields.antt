-- Decoding a field inverts its encoding, and the converse.
use Rattle.std.proofs.Common.{◌≡◌, ℕ, List, ◌++◌, Option, Some, refl, ap, subst, ◌∙◌, append_assoc}
use Rattle.std.specs.Int.{w32, w64}
use Rattle.sf_field.specs.declared.open_flags.OpenFlags.{OpenFlags}
use Rattle.sf_field.specs.Fields.{be32, be64, string}
use Rattle.sf_field.specs.OpenFlags.{open_flags}
use Rattle.sf_request.specs.Requests.{IsU32, IsU64, IsString, IsAttrs, IsFlags, ◌⨾◌}
use Rattle.sf_field.specs.Reading.{number_at, string_at, attrs_at, flags_at}
use Rattle.sf_request.specs.Reading.{both_at, fields}
use Rattle.sf_field.proofs.Laws.{IsBytes, bind_some, some_is, Takes, Takes-then, reads_u32, reads_u64, reads_string}
use Rattle.sf_field.proofs.Laws.{attrs_take, attrs_again}

pub record ReadsAs {A : Type 0} (read : List ℕ → Option (A × List ℕ)) (Is : A → List ℕ → Type 0) : Type 0 where
  pub takes : (bytes : List ℕ) (x : A) (rest : List ℕ) → IsBytes bytes → read bytes ≡ Some (x, rest) → (text : List ℕ) × Takes bytes text rest × Is x text
  pub again : (x : A) (text rest : List ℕ) → Is x text → read (text ++ rest) ≡ Some (x, rest)

pub as_u32 : ReadsAs (number_at w32) IsU32
as_u32 = record {
  takes = λ bytes n rest fits e. let t = reads_u32.takes bytes n rest fits e in (be32 n, t.0, record { fits = t.1; is = refl });
  again = λ n text rest is. ap (λ (t : List ℕ). number_at w32 (t ++ rest)) is.is ∙ reads_u32.again n rest is.fits;
}

pub as_u64 : ReadsAs (number_at w64) IsU64
as_u64 = record {
  takes = λ bytes n rest fits e. let t = reads_u64.takes bytes n rest fits e in (be64 n, t.0, record { fits = t.1; is = refl });
  again = λ n text rest is. ap (λ (t : List ℕ). number_at w64 (t ++ rest)) is.is ∙ reads_u64.again n rest is.fits;
}

pub as_string : ReadsAs string_at IsString
as_string = record {
  takes = λ bytes s rest fits e. let t = reads_string.takes bytes s rest fits e in (string s, t.0, record { short = t.1; is = refl });
  again = λ s text rest is. ap (λ (t : List ℕ). string_at (t ++ rest)) is.is ∙ reads_string.again s rest is.short;
}

pub as_attrs : ReadsAs attrs_at IsAttrs
as_attrs = record { takes = attrs_take; again = λ attrs text rest is. attrs_again text attrs rest is }

flags_take : (bytes : List ℕ) (flags : OpenFlags) (rest : List ℕ) → IsBytes bytes → flags_at bytes ≡ Some (flags, rest) → (text : List ℕ) × Takes bytes text rest × IsFlags flags text
unfolding flags_at
flags_take bytes flags rest fits e =
    let a = bind_some (number_at w32 bytes) _ (flags, rest) e in
    let t = as_u32.takes bytes a.0.0 a.0.1 fits a.1 in
    subst (λ (p : OpenFlags × List ℕ). (text : List ℕ) × Takes bytes text p.1 × IsFlags p.0 text) (some_is (open_flags a.0.0, a.0.1) (flags, rest) a.2) (t.0, t.1, record { bits = a.0.0; spelled = t.2; say = refl })

flags_again : (flags : OpenFlags) (text rest : List ℕ) → IsFlags flags text → flags_at (text ++ rest) ≡ Some (flags, rest)
unfolding flags_at
flags_again flags text rest is = rw (as_u32.again is.bits text rest is.spelled, is.say) refl

pub as_flags : ReadsAs flags_at IsFlags
as_flags = record { takes = flags_take; again = flags_again }

both_take : {A B : Type 0} {first : List ℕ → Option (A × List ℕ)} {second : List ℕ → Option (B × List ℕ)} {IsA : A → List ℕ → Type 0} {IsB : B → List ℕ → Type 0} → ReadsAs first IsA → ReadsAs second IsB
    → (bytes : List ℕ) (x : A × B) (rest : List ℕ) → IsBytes bytes → both_at first second bytes ≡ Some (x, rest) → (text : List ℕ) × Takes bytes text rest × (IsA x.0 ⨾ IsB x.1) text
both_take {A} {B} {first} {second} {IsA} {IsB} p q bytes x rest fits e =
    let a = bind_some (first bytes) _ (x, rest) e in
    let b = bind_some (second a.0.1) _ (x, rest) a.2 in
    let t = p.takes bytes a.0.0 a.0.1 fits a.1 in
    let u = q.takes a.0.1 b.0.0 b.0.1 t.1.rest_fits b.1 in
    subst (λ (r : (A × B) × List ℕ). (text : List ℕ) × Takes bytes text r.1 × (IsA r.0.0 ⨾ IsB r.0.1) text) (some_is ((a.0.0, b.0.0), b.0.1) (x, rest) b.2)
    (t.0 ++ u.0, Takes-then bytes t.0 a.0.1 u.0 b.0.1 t.1 u.1, record { front = t.0; back = u.0; first = t.2; second = u.2; parts = refl })

both_again : {A B : Type 0} {first : List ℕ → Option (A × List ℕ)} {second : List ℕ → Option (B × List ℕ)} {IsA : A → List ℕ → Type 0} {IsB : B → List ℕ → Type 0} → ReadsAs first IsA → ReadsAs second IsB
    → (x : A × B) (text rest : List ℕ) → (IsA x.0 ⨾ IsB x.1) text → both_at first second (text ++ rest) ≡ Some (x, rest)
both_again {first = first} {second = second} p q x text rest is =
    let parts : text ++ rest ≡ is.front ++ (is.back ++ rest) = ap (λ (t : List ℕ). t ++ rest) is.parts ∙ append_assoc is.front is.back rest in
    ap (both_at first second) parts ∙ rw (p.again x.0 is.front (is.back ++ rest) is.first, q.again x.1 is.back rest is.second) refl

abbrev pub Both : {A B : Type 0} → (A → List ℕ → Type 0) → (B → List ℕ → Type 0) → A × B → List ℕ → Type 0
Both IsA IsB x text = (IsA x.0 ⨾ IsB x.1) text

pub as_both : {A B : Type 0} {first : List ℕ → Option (A × List ℕ)} {second : List ℕ → Option (B × List ℕ)} {IsA : A → List ℕ → Type 0} {IsB : B → List ℕ → Type 0} → ReadsAs first IsA → ReadsAs second IsB
    → ReadsAs (both_at first second) (Both IsA IsB)
as_both p q = record { takes = both_take p q; again = both_again p q }

-- ---- without the bytes after them

pub fields_take : {A : Type 0} (read : List ℕ → Option (A × List ℕ)) (Is : A → List ℕ → Type 0) → ReadsAs read Is → (bytes : List ℕ) (x : A) → IsBytes bytes → fields read bytes ≡ Some x
    → (text more : List ℕ) × (bytes ≡ text ++ more) × Is x text
unfolding fields
fields_take {A} read Is p bytes x fits e =
    let a = bind_some (read bytes) _ x e in
    let t = p.takes bytes a.0.0 a.0.1 fits a.1 in
    subst (λ (y : A). (text more : List ℕ) × (bytes ≡ text ++ more) × Is y text) (some_is a.0.0 x a.2) (t.0, a.0.1, t.1.parts, t.2)

pub fields_again : {A : Type 0} (read : List ℕ → Option (A × List ℕ)) (Is : A → List ℕ → Type 0) → ReadsAs read Is → (x : A) (text more : List ℕ) → Is x text → fields read (text ++ more) ≡ Some x
unfolding fields
fields_again read Is p x text more is = rw (p.again x text more is) refl
