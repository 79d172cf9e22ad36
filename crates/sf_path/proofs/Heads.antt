-- Names with different heads are ordered as their heads. Short names with equal heads are equal.
use Rattle.std.proofs.Common.{◌≡◌, ◌≢◌, ℕ, zero, suc, ◌+◌, ◌*◌, ◌%◌, ◌<◌, ◌≤◌, List, [], ◌∷◌, length, get_or, refl, sym, ap, subst, ◌∙◌, inl, inr, arith}
use Rattle.std.specs.Prelude.{All, Contains}
use Rattle.std.specs.declared.cmp.Ordering.{Ordering}
use Rattle.std.specs.declared.cmp.Ordering.TheVariants.{Less, Equal, Greater}
use Rattle.std.specs.Ordering.{nat_cmp, ordering_then, MatchOrdering}
use Rattle.std.specs.Cmp.{nat_cmp_is}
use Rattle.std.specs.Cmp.Lexicographic.{slice_cmp}
use Rattle.std.proofs.lemmas.Bool.{cases_lt}
use Rattle.std.proofs.lemmas.Cmp.{ranked, tied_itself}
use Rattle.std.proofs.lemmas.List.{get_or_default}
use Rattle.std.proofs.lemmas.Nat.{mod-mul-add}
use Rattle.std.proofs.lemmas.List.Elements.{All-head, All-tail, All-nil}
use Rattle.sf_path.specs.Heads.{spelled, head_of}
use Rattle.sf_path.specs.Names.{IsPart}
use Rattle.sf_path.specs.Order.{name_total}

abbrev Bytes : List ℕ → Type 0
Bytes bytes = All (λ b. b < 256) bytes

none : Bytes []
none = All-nil (λ b. b < 256)

first_of_bytes : (b : ℕ) (bytes : List ℕ) → Bytes (b ∷ bytes) → b < 256
first_of_bytes b bytes h = All-head (λ b. b < 256) b bytes h

rest_of : (b : ℕ) (bytes : List ℕ) → Bytes (b ∷ bytes) → Bytes bytes
rest_of b bytes h = All-tail (λ b. b < 256) b bytes h

-- a smaller number stays smaller, whatever bytes follow
rises : (more n m : ℕ) (a b : List ℕ) → Bytes a → n < m → spelled more n a < spelled more m b
rises zero n m a b h lt = lt
rises (suc more) n m [] [] h lt = rises more (n * 256) (m * 256) [] [] none (omega arith)
rises (suc more) n m [] (y ∷ ys) h lt = rises more (n * 256) (m * 256 + y) [] ys none (omega arith)
rises (suc more) n m (x ∷ xs) [] h lt =
    let small = first_of_bytes x xs h in
    rises more (n * 256 + x) (m * 256) xs [] (rest_of x xs h) (omega arith)
rises (suc more) n m (x ∷ xs) (y ∷ ys) h lt =
    let small = first_of_bytes x xs h in
    rises more (n * 256 + x) (m * 256 + y) xs ys (rest_of x xs h) (omega arith)

-- zeros are the least bytes that can follow
least : (more n m : ℕ) (b : List ℕ) → n ≤ m → spelled more n [] ≤ spelled more m b
least zero n m b le = le
least (suc more) n m [] le = least more (n * 256) (m * 256) [] (omega arith)
least (suc more) n m (y ∷ ys) le = least more (n * 256) (m * 256 + y) ys (omega arith)

below : (x y : ℕ) → x < y → nat_cmp x y ≡ Less
below x y lt = sym (nat_cmp_is x y Less lt)

above : (x y : ℕ) → y < x → nat_cmp x y ≡ Greater
above x y lt = sym (nat_cmp_is x y Greater lt)

-- Two suffixes: if their spellings differ, they are ordered as these.
record StandsAsSpelled (more : ℕ) (xs ys : List ℕ) : Type 0 where
  one : Bytes xs
  other : Bytes ys
  onward : (m : ℕ) → spelled more m xs ≢ spelled more m ys → nat_cmp (spelled more m xs) (spelled more m ys) ≡ slice_cmp nat_cmp xs ys

-- if the first bytes differ they decide, otherwise the suffixes do
decided : {more : ℕ} {xs ys : List ℕ} (n x y : ℕ) → StandsAsSpelled more xs ys → spelled more (n * 256 + x) xs ≢ spelled more (n * 256 + y) ys
    → (r : Ordering) → nat_cmp x y ≡ r → MatchOrdering r (x < y) (x ≡ y) (y < x)
    → nat_cmp (spelled more (n * 256 + x) xs) (spelled more (n * 256 + y) ys) ≡ ordering_then (nat_cmp x y) (slice_cmp nat_cmp xs ys)
decided {more} {xs} {ys} n x y behind apart Less e lt =
    let under : x < y = lt in
    below _ _ (rises more (n * 256 + x) (n * 256 + y) xs ys behind.one (omega arith)) ∙ sym (ap (λ r. ordering_then r (slice_cmp nat_cmp xs ys)) e)
decided {more} {xs} {ys} n x y behind apart Greater e lt =
    let over : y < x = lt in
    above _ _ (rises more (n * 256 + y) (n * 256 + x) ys xs behind.other (omega arith)) ∙ sym (ap (λ r. ordering_then r (slice_cmp nat_cmp xs ys)) e)
decided {more} {xs} {ys} n x y behind apart Equal e same =
    let level : x ≡ y = same in
    let further : spelled more (n * 256 + x) xs ≢ spelled more (n * 256 + x) ys =
    subst (λ z. spelled more (n * 256 + x) xs ≢ spelled more (n * 256 + z) ys) (sym level) apart in
    subst (λ z. nat_cmp (spelled more (n * 256 + x) xs) (spelled more (n * 256 + z) ys) ≡ slice_cmp nat_cmp xs ys) level (behind.onward (n * 256 + x) further)
    ∙ sym (ap (λ r. ordering_then r (slice_cmp nat_cmp xs ys)) e)

spelled_order : (more n : ℕ) (a b : List ℕ) → Bytes a → Bytes b → spelled more n a ≢ spelled more n b
    → nat_cmp (spelled more n a) (spelled more n b) ≡ slice_cmp nat_cmp a b
spelled_order zero n a b g h apart = absurd (apart refl)
spelled_order (suc more) n [] [] g h apart = absurd (apart refl)
spelled_order (suc more) n [] (y ∷ ys) g h apart =
    let le = least more (n * 256) (n * 256 + y) ys (omega arith) in
    below _ _ (elim (cases_lt (spelled more (n * 256) []) (spelled more (n * 256 + y) ys)) [ inl lt ↦ lt | inr over ↦ absurd (apart (omega arith)) ])
spelled_order (suc more) n (x ∷ xs) [] g h apart =
    let le = least more (n * 256) (n * 256 + x) xs (omega arith) in
    above _ _ (elim (cases_lt (spelled more (n * 256) []) (spelled more (n * 256 + x) xs)) [ inl lt ↦ lt | inr over ↦ absurd (apart (omega arith)) ])
spelled_order (suc more) n (x ∷ xs) (y ∷ ys) g h apart =
    let onward = λ (m : ℕ) (further : spelled more m xs ≢ spelled more m ys). spelled_order more m xs ys (rest_of x xs g) (rest_of y ys h) further in
    let behind : StandsAsSpelled more xs ys = record { one = rest_of x xs g; other = rest_of y ys h; onward = onward } in
    decided n x y behind apart (nat_cmp x y) refl (ranked x y (nat_cmp x y) refl)

pub head_order : (a b : List ℕ) → Bytes a → Bytes b → head_of a ≢ head_of b → nat_cmp (head_of a) (head_of b) ≡ slice_cmp nat_cmp a b
head_order a b g h apart = spelled_order 8 0 a b g h apart

abbrev Solid : List ℕ → Type 0
Solid bytes = All (λ b. 0 < b) bytes

first_of_solid : (b : ℕ) (bytes : List ℕ) → Solid (b ∷ bytes) → 0 < b
first_of_solid b bytes h = All-head (λ b. 0 < b) b bytes h

solid_rest : (b : ℕ) (bytes : List ℕ) → Solid (b ∷ bytes) → Solid bytes
solid_rest b bytes h = All-tail (λ b. 0 < b) b bytes h

-- At most `most` bytes, none of them 0.
record IsShortText (most : ℕ) (a : List ℕ) : Type 0 where
  bytes : Bytes a
  solid : Solid a
  short : length a ≤ most

short_rest : (most x : ℕ) (xs : List ℕ) → IsShortText (suc most) (x ∷ xs) → IsShortText most xs
short_rest most x xs a = record { bytes = rest_of x xs a.bytes; solid = solid_rest x xs a.solid; short = omega (arith, a.short) }

-- a short text without zeros is determined by its spelling
spelled_once : (more n : ℕ) (a b : List ℕ) → IsShortText more a → IsShortText more b → spelled more n a ≡ spelled more n b → a ≡ b
spelled_once zero n [] [] g h e = refl
spelled_once zero n [] (y ∷ ys) g h e = absurd (omega (arith, h.short))
spelled_once zero n (x ∷ xs) b g h e = absurd (omega (arith, g.short))
spelled_once (suc more) n [] [] g h e = refl
spelled_once (suc more) n [] (y ∷ ys) g h e =
    let some = first_of_solid y ys h.solid in
    let less = rises more (n * 256) (n * 256 + y) [] ys none (omega arith) in
    absurd (omega arith)
spelled_once (suc more) n (x ∷ xs) [] g h e =
    let some = first_of_solid x xs g.solid in
    let less = rises more (n * 256) (n * 256 + x) [] xs none (omega arith) in
    absurd (omega arith)
spelled_once (suc more) n (x ∷ xs) (y ∷ ys) g h e =
    let g' = short_rest more x xs g in
    let h' = short_rest more y ys h in
    elim (cases_lt x y) [
      | inl lt ↦ (let less = rises more (n * 256 + x) (n * 256 + y) xs ys g'.bytes (omega arith) in absurd (omega arith))
      | inr over ↦
          elim (cases_lt y x) [
            | inl lt ↦ (let less = rises more (n * 256 + y) (n * 256 + x) ys xs h'.bytes (omega arith) in absurd (omega arith))
            | inr under ↦
                (let level : x ≡ y = omega arith in
                let again : spelled more (n * 256 + x) xs ≡ spelled more (n * 256 + x) ys =
                subst (λ z. spelled more (n * 256 + x) xs ≡ spelled more (n * 256 + z) ys) (sym level) e in
                let rest = spelled_once more (n * 256 + x) xs ys g' h' again in
                cc)
          ]
    ]

solid_name : (name : List ℕ) → ¬ Contains name 0 → Solid name
solid_name name h = λ k d lt. elim (cases_lt 0 (get_or name k d)) [ inl some ↦ some | inr none ↦ absurd (h (k, lt, get_or_default name k 0 d lt ∙ omega arith)) ]

-- the number's last byte is the last byte spelled
last_byte : (more n : ℕ) (a : List ℕ) → Bytes a → Solid a → suc more ≤ length a → spelled (suc more) n a % 256 ≢ 0
last_byte more n [] g s long e = absurd (omega (arith, long))
last_byte zero n (x ∷ xs) g s long e =
    let some = first_of_solid x xs s in
    let is = mod-mul-add n 256 x (first_of_bytes x xs g) in
    omega arith
last_byte (suc more) n (x ∷ xs) g s long e = last_byte more (n * 256 + x) xs (rest_of x xs g) (solid_rest x xs s) (omega (arith, long)) e

short_head : (a : List ℕ) → IsPart a → head_of a % 256 ≡ 0 → length a ≤ 8
short_head a g e = elim (cases_lt (length a) 8) [ inl lt ↦ omega arith | inr long ↦ absurd (last_byte 7 0 a g.bytes (solid_name a g.no_zero) long e) ]

-- names are equal if their heads are equal and end with a 0
pub short_names : (a b : List ℕ) → IsPart a → IsPart b → head_of a ≡ head_of b → head_of a % 256 ≡ 0 → slice_cmp nat_cmp a b ≡ Equal
short_names a b g h e short =
    let one : IsShortText 8 a = record { bytes = g.bytes; solid = solid_name a g.no_zero; short = short_head a g short } in
    let other : IsShortText 8 b = record { bytes = h.bytes; solid = solid_name b h.no_zero; short = short_head b h (ap (λ k. k % 256) (sym e) ∙ short) } in
    let same = spelled_once 8 0 a b one other e in
    subst (λ z. slice_cmp nat_cmp a z ≡ Equal) same (tied_itself name_total a)
