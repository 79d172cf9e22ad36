-- Queues of keys, with a flag for each key that is in one.
use Rattle.std.proofs.Common.{◌≡◌, ◌≢◌, ◌==◌, ℕ, zero, suc, ◌<◌, ◌≤◌, Bool, true, false, List, [], ◌∷◌, length, set, get_or, cond, replicate, count_by, Contains, refl, sym, ap, ◌∙◌, subst, inl, inr, arith}
use Rattle.std.proofs.lemmas.Bool.{cases_eq, cases_lt}
use Rattle.std.proofs.lemmas.Bool.Decides.{nat_tests}
use Rattle.std.proofs.lemmas.List.{get_or-set_same, get_or-set_other, get_or_past, get_or_read_under, length-set}
use Rattle.std.proofs.lemmas.List.Sums.{sum_by-set, sum_by-cons, count_by-le-length}
use Rattle.std.proofs.lemmas.List.Folds.{sum_by-replicate}
use Rattle.slab.proofs.SlabLemmas.{Contains-cons, Contains-cons_cases}
use Rattle.sf_workers.specs.Ready.{IsKeyQueue}

abbrev one_if : Bool → ℕ
one_if b = cond b 1 0

one_same : (key : ℕ) → one_if (key == key) ≡ 1
one_same key = let same : (key == key) ≡ true = grind (arith, nat_tests) in ap one_if same

none_other : (key k : ℕ) → k ≢ key → one_if (k == key) ≡ 0
none_other key k other = let differs : (k == key) ≡ false = grind (arith, nat_tests) in ap one_if differs

is_set : (flag : Bool) (n : ℕ) → one_if flag ≡ suc n → flag ≡ true
is_set true n is = refl
is_set false n is = absurd (omega (arith, is))

-- what a read of a flag says
pub was_free : (flags : List Bool) (key : ℕ) (flag : Bool) → flag ≡ get_or flags key flag → flag ≡ false → get_or flags key false ≡ false
was_free flags key flag read is = sym (subst (λ f. f ≡ get_or flags key f) is read)

pub was_set : (flags : List Bool) (key n : ℕ) (flag : Bool) → flag ≡ get_or flags key flag → key < n → n ≡ length flags → flag ≡ true → get_or flags key false ≡ true
was_set flags key n flag read within len is = sym (get_or_read_under flags key n flag false read within len) ∙ is

no_flag : (n k : ℕ) → get_or (replicate n false) k false ≡ false
no_flag zero k = refl
no_flag (suc n) zero = refl
no_flag (suc n) (suc k) = no_flag n k

-- no keys
pub none_queued : (queue : List ℕ) (flags : List Bool) (n : ℕ) → queue ≡ [] → flags ≡ replicate n false → IsKeyQueue queue flags
none_queued queue flags n empty clear = subst (λ q. IsKeyQueue q flags) (sym empty) (subst (λ (f : List Bool). IsKeyQueue [] f) (sym clear) (record {
  once = λ k. ap one_if (sym (no_flag n k));
  many = omega (arith, sum_by-replicate one_if n false);
}))

-- there is room for one more
pub has_room : (queue : List ℕ) (flags : List Bool) (key : ℕ) → key < length flags → get_or flags key false ≡ false → IsKeyQueue queue flags → length queue < length flags
has_room queue flags key within free all =
    let old : one_if (get_or flags key false) ≡ 0 = ap one_if free in
    omega (arith, all.many, sum_by-set one_if flags key true false within, old, count_by-le-length (λ (b : Bool). b) (set flags key true), length-set flags key true)

-- the first key has a flag
pub first_is_set : (flags : List Bool) (key : ℕ) (rest : List ℕ) → IsKeyQueue (key ∷ rest) flags → get_or flags key false ≡ true
first_is_set flags key rest all =
    is_set (get_or flags key false) (count_by (λ k. k == key) rest) (omega (arith, all.once key, sum_by-cons (λ k. one_if (k == key)) key rest, one_same key))

pub set_within : (flags : List Bool) (key : ℕ) → get_or flags key false ≡ true → key < length flags
set_within flags key flag = elim (cases_lt key (length flags)) [
  | inl within ↦ within
  | inr past ↦ let none = get_or_past flags key false past in absurd (cc)
]

-- the first key is removed
pub popped : (flags : List Bool) (key : ℕ) (rest : List ℕ) → IsKeyQueue (key ∷ rest) flags → IsKeyQueue rest (set flags key false)
popped flags key rest all =
    let was = first_is_set flags key rest all in
    let within = set_within flags key was in
    let old : one_if (get_or flags key false) ≡ 1 = ap one_if was in
    record {
      once = λ k.
          let less = sum_by-cons (λ x. one_if (x == k)) key rest in
          elim (cases_eq k key) [
            | inl same ↦
                let flag : one_if (get_or (set flags key false) k false) ≡ 0 = ap (λ n. one_if (get_or (set flags key false) n false)) same ∙ ap one_if (get_or-set_same flags key false false within) in
                let had : one_if (get_or flags k false) ≡ 1 = ap (λ n. one_if (get_or flags n false)) same ∙ old in
                let one : one_if (key == k) ≡ 1 = ap (λ n. one_if (key == n)) same ∙ one_same key in
                omega (arith, less, all.once k, flag, had, one)
            | inr other ↦
                let flag : one_if (get_or (set flags key false) k false) ≡ one_if (get_or flags k false) = ap one_if (get_or-set_other flags key k false false other) in
                omega (arith, less, all.once k, flag, none_other k key (λ e. other (sym e)))
          ];
      many = omega (arith, all.many, sum_by-set one_if flags key false false within, old);
    }

counted : (queue : List ℕ) (key : ℕ) → Contains queue key → 1 ≤ count_by (λ k. k == key) queue
counted [] key there = absurd (omega (arith, there.1))
counted (k ∷ queue) key there = elim (Contains-cons_cases k key queue there) [
  | inl same ↦ omega (arith, sum_by-cons (λ x. one_if (x == key)) k queue, ap (λ n. one_if (n == key)) same, one_same key)
  | inr later ↦ omega (arith, sum_by-cons (λ x. one_if (x == key)) k queue, counted queue key later)
]

contained : (queue : List ℕ) (key : ℕ) → 1 ≤ count_by (λ k. k == key) queue → Contains queue key
contained [] key some = absurd (omega (arith, some))
contained (k ∷ queue) key some = elim (cases_eq k key) [
  | inl same ↦ (0, omega arith, same)
  | inr other ↦ Contains-cons k key queue (contained queue key (omega (arith, some, sum_by-cons (λ x. one_if (x == key)) k queue, none_other key k other)))
]

-- the flag of a key says whether it is in the queue
pub is_there : (queue : List ℕ) (flags : List Bool) (key : ℕ) → IsKeyQueue queue flags → get_or flags key false ≡ true → Contains queue key
is_there queue flags key all flag =
    let one : one_if (get_or flags key false) ≡ 1 = ap one_if flag in
    contained queue key (omega (arith, all.once key, one))

pub is_absent : (queue : List ℕ) (flags : List Bool) (key : ℕ) → IsKeyQueue queue flags → get_or flags key false ≡ false → Contains queue key → ⊥
is_absent queue flags key all flag there =
    let none : one_if (get_or flags key false) ≡ 0 = ap one_if flag in
    omega (arith, all.once key, none, counted queue key there)
