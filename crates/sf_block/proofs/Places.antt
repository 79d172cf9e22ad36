-- The byte at an offset after a resize or a write.
use Rattle.std.proofs.Common.{◌≡◌, ◌<◌, ◌≤◌, ◌+◌, ◌*◌, ◌-◌, ◌/◌, ◌%◌, ◌∙◌, ℕ, min, max, zero, suc, List, [], ◌∷◌, ◌++◌, length, get_or, take, drop, replicate, refl, sym, ap, append_assoc, arith, inl, inr}
use Rattle.std.specs.Prelude.{nat_lt, if◌then◌else◌}
use Rattle.std.proofs.lemmas.Bool.{cases_lt, lt-ltb, le-ltb}
use Rattle.std.proofs.lemmas.List.{length-append, length-take, length-drop, length-replicate, get_or_append_left, get_or-append_right, get_or-take, get_or-drop, get_or_past, ext_get_or}
use Rattle.std.proofs.lemmas.List.FromFn.{length-map-range_with_len, get_or-map-range_with_len}
use Rattle.sf_block.specs.Contents.{FileBytes, resized, written}
use Rattle.sf_block.specs.Blocks.{byte_in, bytes_from}

pub length_resized : (c : List ℕ) (n : ℕ) → length (resized c n) ≡ n
length_resized c n =
    let a : length (take n c) ≡ min n (length c) = length-take n c in
    let zero_byte : ℕ = 0 in
    let b : length (replicate (n - length c) zero_byte) ≡ n - length c = length-replicate (n - length c) zero_byte in
    let both : length (resized c n) ≡ length (take n c) + length (replicate (n - length c) zero_byte) = length-append (take n c) (replicate (n - length c) zero_byte) in
    omega (arith, a, b, both)

-- zeros, and the bytes beyond the end
pub zero_at : (n i : ℕ) → ◌≡◌ {A = ℕ} (get_or (replicate n 0) i 0) 0
zero_at zero i = refl
zero_at (suc n) zero = refl
zero_at (suc n) (suc i) = zero_at n i

-- a prefix, extended with zeros
filled : (c : List ℕ) (n m i : ℕ) → i < n → get_or (take n c ++ replicate m 0) i 0 ≡ get_or c i 0
filled [] zero m i lt = absurd (omega (arith, lt))
filled [] (suc n) m i lt = zero_at m i
filled (x ∷ c) zero m i lt = absurd (omega (arith, lt))
filled (x ∷ c) (suc n) m zero lt = refl
filled (x ∷ c) (suc n) m (suc i) lt = filled c n m i (omega (arith, lt))

pub resized_at : (c : List ℕ) (n i : ℕ) → i < n → get_or (resized c n) i 0 ≡ get_or c i 0
resized_at c n i lt = filled c n (n - length c) i lt

pub length_written : (c d : List ℕ) (s : ℕ) → length (written c s d) ≡ max (length c) (s + length d)
length_written c d s =
    let a : length (resized c s) ≡ s = length_resized c s in
    let b : length (drop (s + length d) c) ≡ length c - (s + length d) = length-drop (s + length d) c in
    let e : length (d ++ drop (s + length d) c) ≡ length d + length (drop (s + length d) c) = length-append d (drop (s + length d) c) in
    let f : length (resized c s ++ (d ++ drop (s + length d) c)) ≡ length (resized c s) + length (d ++ drop (s + length d) c) = length-append (resized c s) (d ++ drop (s + length d) c) in
    let g : length (written c s d) ≡ length (resized c s ++ (d ++ drop (s + length d) c)) = ap (λ x. length x) (append_assoc (resized c s) d (drop (s + length d) c)) in
    omega (arith, a, b, e, f, g)

-- a write, in three parts
parted : (c d : List ℕ) (s : ℕ) → written c s d ≡ resized c s ++ (d ++ drop (s + length d) c)
parted c d s = append_assoc (resized c s) d (drop (s + length d) c)

pub written_before : (c d : List ℕ) (s i : ℕ) → i < s → get_or (written c s d) i 0 ≡ get_or c i 0
written_before c d s i lt =
    ap (λ x. get_or x i 0) (parted c d s)
    ∙ get_or_append_left (resized c s) (d ++ drop (s + length d) c) 0 i (omega (arith, lt, length_resized c s))
    ∙ resized_at c s i lt

pub written_within : (c d : List ℕ) (s i : ℕ) → s ≤ i → i < s + length d → get_or (written c s d) i 0 ≡ get_or d (i - s) 0
written_within c d s i le lt =
    ap (λ x. get_or x i 0) (parted c d s)
    ∙ get_or-append_right (resized c s) (d ++ drop (s + length d) c) s i 0 (length_resized c s) le
    ∙ get_or_append_left d (drop (s + length d) c) 0 (i - s) (omega (arith, le, lt))

pub written_behind : (c d : List ℕ) (s i : ℕ) → s + length d ≤ i → get_or (written c s d) i 0 ≡ get_or c i 0
written_behind c d s i le =
    ap (λ x. get_or x i 0) (parted c d s)
    ∙ get_or-append_right (resized c s) (d ++ drop (s + length d) c) s i 0 (length_resized c s) (omega (arith, le))
    ∙ get_or-append_right d (drop (s + length d) c) (length d) (i - s) 0 refl (omega (arith, le))
    ∙ get_or-drop (s + length d) c (i - s - length d) 0
    ∙ ap (λ k. get_or c k 0) (omega (arith, le))

-- ---- bytes of blocks
pub length_bytes : (block : ℕ → List ℕ) (s n : ℕ) → length (bytes_from block s n) ≡ n
length_bytes block s n = length-map-range_with_len (byte_in block) s n

pub byte_at : (block : ℕ → List ℕ) (s n i : ℕ) → i < n → get_or (bytes_from block s n) i 0 ≡ byte_in block (s + i)
byte_at block s n i lt = get_or-map-range_with_len (byte_in block) s n i (s + i) 0 lt refl

-- these are the bytes from an offset on
pub are_bytes : (block : ℕ → List ℕ) (s n : ℕ) (bytes : List ℕ) → length bytes ≡ n → ((i : ℕ) → i < n → get_or bytes i 0 ≡ byte_in block (s + i)) → bytes ≡ bytes_from block s n
are_bytes block s n bytes len each =
    ext_get_or 0 bytes (bytes_from block s n) (len ∙ sym (length_bytes block s n))
    (λ i lt. each i (omega (arith, len, lt)) ∙ sym (byte_at block s n i (omega (arith, len, lt))))

-- the bytes of a block or a run, from an offset on
pub from_block : (block : ℕ → List ℕ) (at n : ℕ) → at % 4096 + n ≤ 4096 → resized (drop (at % 4096) (block (at / 4096))) n ≡ bytes_from block at n
from_block block at n fits =
    let there = drop (at % 4096) (block (at / 4096)) in
    are_bytes block at n (resized there n) (length_resized there n)
    (λ i lt.
    resized_at there n i lt
    ∙ get_or-drop (at % 4096) (block (at / 4096)) i 0
    ∙ ap (λ k. get_or (block (at / 4096)) k 0) (omega (arith, lt, fits))
    ∙ ap (λ k. get_or (block k) ((at + i) % 4096) 0) (omega (arith, lt, fits)))

pub from_run : (block : ℕ → List ℕ) (run : List ℕ) (at n : ℕ) → ((i : ℕ) → i < 32768 → get_or run i 0 ≡ byte_in block (at / 32768 * 32768 + i)) → at % 32768 + n ≤ 32768
    → resized (drop (at % 32768) run) n ≡ bytes_from block at n
from_run block run at n bytes fits =
    let there = drop (at % 32768) run in
    are_bytes block at n (resized there n) (length_resized there n)
    (λ i lt.
    resized_at there n i lt
    ∙ get_or-drop (at % 32768) run i 0
    ∙ bytes (at % 32768 + i) (omega (arith, lt, fits))
    ∙ ap (byte_in block) (omega (arith, lt, fits)))

-- bytes appended to others
pub gathered : (block : ℕ → List ℕ) (s m n : ℕ) → bytes_from block s m ++ bytes_from block (s + m) n ≡ bytes_from block s (m + n)
gathered block s m n =
    let one = bytes_from block s m in
    let two = bytes_from block (s + m) n in
    let size : length (one ++ two) ≡ length one + length two = length-append one two in
    are_bytes block s (m + n) (one ++ two) (omega (arith, size, length_bytes block s m, length_bytes block (s + m) n))
    (λ i lt. elim (cases_lt i m) [
      | inl before ↦ get_or_append_left one two 0 i (omega (arith, before, length_bytes block s m)) ∙ byte_at block s m i before
      | inr from ↦
          get_or-append_right one two m i 0 (length_bytes block s m) from
          ∙ byte_at block (s + m) n (i - m) (omega (arith, from, lt))
          ∙ ap (byte_in block) (omega (arith, from))
    ])

-- the bytes that are read
pub read_is : (block : ℕ → List ℕ) (len offset most start n : ℕ) → start ≡ min offset len → n ≡ min most (len - start) → bytes_from block start n ≡ take most (drop offset (bytes_from block 0 len))
read_is block len offset most start n from much =
    let all = bytes_from block 0 len in
    let d : length (drop offset all) ≡ length all - offset = length-drop offset all in
    let t : length (take most (drop offset all)) ≡ min most (length (drop offset all)) = length-take most (drop offset all) in
    sym (are_bytes block start n (take most (drop offset all)) (omega (arith, d, t, length_bytes block 0 len, from, much))
    (λ i lt.
    get_or-take most (drop offset all) i 0 (omega (arith, lt, much))
    ∙ get_or-drop offset all i 0
    ∙ byte_at block 0 len (offset + i) (omega (arith, lt, much, from))
    ∙ ap (byte_in block) (omega (arith, lt, much, from))))

-- a resize
pub sized : (block new : ℕ → List ℕ) (len n : ℕ) → ((i : ℕ) → i < n → byte_in new i ≡ byte_in block i) → ((i : ℕ) → len ≤ i → byte_in block i ≡ 0) → bytes_from new 0 n ≡ resized (bytes_from block 0 len) n
sized block new len n same ends =
    sym (are_bytes new 0 n (resized (bytes_from block 0 len) n) (length_resized (bytes_from block 0 len) n)
    (λ i lt. resized_at (bytes_from block 0 len) n i lt ∙ elim (cases_lt i len) [
      | inl within ↦ byte_at block 0 len i within ∙ ap (byte_in block) (omega arith) ∙ sym (same i lt) ∙ ap (byte_in new) (omega arith)
      | inr past ↦ get_or_past (bytes_from block 0 len) i 0 (omega (arith, past, length_bytes block 0 len)) ∙ sym (ends i past) ∙ sym (same i lt) ∙ ap (byte_in new) (omega arith)
    ]))

-- other blocks with the same bytes
pub same_blocks : (f g : ℕ → List ℕ) (s n : ℕ) → ((k : ℕ) → f k ≡ g k) → bytes_from f s n ≡ bytes_from g s n
same_blocks f g s n h = ap (λ (b : ℕ → List ℕ). bytes_from b s n) (λ i k. h k i)

pub if_below : {A : Type 0} (i n : ℕ) (a b : A) → i < n → (if nat_lt i n then a else b) ≡ a
if_below i n a b lt = ap (λ t. if t then a else b) (lt-ltb i n lt)

pub if_above : {A : Type 0} (i n : ℕ) (a b : A) → n ≤ i → (if nat_lt i n then a else b) ≡ b
if_above i n a b le = ap (λ t. if t then a else b) (le-ltb i n le)

pub same_file : (a b : List ℕ) (j k : ℕ) → a ≡ b → j ≡ k → ◌≡◌ {A = FileBytes} (record { bytes = a; left = j }) (record { bytes = b; left = k })
same_file a b j k p q = λ i. record { bytes = p i; left = q i }
