-- The effect of the blocks of a write on the bytes.
use Rattle.std.proofs.Common.{◌≡◌, ◌<◌, ◌≤◌, ◌+◌, ◌*◌, ◌-◌, ◌/◌, ◌%◌, ◌∙◌, ℕ, min, max, List, [], ◌∷◌, length, get_or, drop, sym, ap, arith, inl, inr}
use Rattle.std.specs.Prelude.{◌⊎◌}
use Rattle.std.proofs.lemmas.Bool.{cases_lt}
use Rattle.std.proofs.lemmas.List.{length-take, length-drop, get_or-take, get_or-drop, get_or_past}
use Rattle.sf_block.specs.Contents.{written, blocks_of}
use Rattle.sf_block.specs.Blocks.{block_in, byte_in, bytes_from, block_now, block_written, place_in, part_in, FileBlocks}
use Rattle.sf_block.proofs.Places.{length_written, written_before, written_within, written_behind, length_bytes, byte_at, are_bytes}
use Rattle.sf_block.proofs.Waiting.{now_within, now_before, now_behind}

-- ---- one block
module _ (block : ℕ → List ℕ) (start : ℕ) (bytes : List ℕ) (k : ℕ) (from : start < k * 4096 + 4096) (to : k * 4096 < start + length bytes) where
  pub part_length : length (part_in start bytes k) ≡ min (start + length bytes) (k * 4096 + 4096) - max start (k * 4096)
  part_length =
      let n = min (start + length bytes) (k * 4096 + 4096) - max start (k * 4096) in
      let d : length (drop (max start (k * 4096) - start) bytes) ≡ length bytes - (max start (k * 4096) - start) = length-drop (max start (k * 4096) - start) bytes in
      let t : length (part_in start bytes k) ≡ min n (length (drop (max start (k * 4096) - start) bytes)) = length-take n (drop (max start (k * 4096) - start) bytes) in
      omega (arith, d, t, from, to)

  module _ (i r : ℕ) (at : i ≡ k * 4096 + r) (lt : r < 4096) where
    pub laid_before : i < start → get_or (block_written block start bytes k) r 0 ≡ get_or (block k) r 0
    laid_before h = written_before (block k) (part_in start bytes k) (place_in start k) r (omega (arith, at, h))

    pub laid_within : start ≤ i → i < start + length bytes → get_or (block_written block start bytes k) r 0 ≡ get_or bytes (i - start) 0
    laid_within le h =
        let n = min (start + length bytes) (k * 4096 + 4096) - max start (k * 4096) in
        let j = max start (k * 4096) - start in
        let q = r - place_in start k in
        written_within (block k) (part_in start bytes k) (place_in start k) r (omega (arith, at, le)) (omega (arith, at, le, h, lt, part_length))
        ∙ get_or-take n (drop j bytes) q 0 (omega (arith, at, le, h, lt))
        ∙ get_or-drop j bytes q 0
        ∙ ap (λ m. get_or bytes m 0) (omega (arith, at, le))

    pub laid_behind : start + length bytes ≤ i → get_or (block_written block start bytes k) r 0 ≡ get_or (block k) r 0
    laid_behind le = written_behind (block k) (part_in start bytes k) (place_in start k) r (omega (arith, at, le, to, part_length))

  pub laid_small : length (block k) ≤ 4096 → length (block_written block start bytes k) ≤ 4096
  laid_small small = omega (arith, small, part_length, from, length_written (block k) (part_in start bytes k) (place_in start k))

-- the extent of the blocks of a write
pub last_block : (start : ℕ) (bytes : List ℕ) → 0 < length bytes → blocks_of start bytes ≡ (start + length bytes - 1) / 4096 + 1 - start / 4096
last_block start [] some = absurd (omega (arith, some))
last_block start (b ∷ bytes) some = ap (λ n. n / 4096 + 1 - start / 4096) (omega arith)

-- ---- all blocks of a write, pending
module _ (blocks old : FileBlocks) (start : ℕ) (bytes : List ℕ) (fresh : List (List ℕ)) (some : 0 < length bytes)
    (same : (k : ℕ) → block_in blocks k ≡ block_in old k)
    (count : length fresh ≡ blocks_of start bytes)
    (laid : (j : ℕ) → j < length fresh → get_or fresh j [] ≡ block_written (block_in old) start bytes (start / 4096 + j)) where
  reach : length fresh ≡ (start + length bytes - 1) / 4096 + 1 - start / 4096
  reach = count ∙ last_block start bytes some

  abbrev now : ℕ → List ℕ
  now = block_now blocks (start / 4096) fresh

  in_block : (k : ℕ) → start / 4096 ≤ k → k < start / 4096 + length fresh → now k ≡ block_written (block_in old) start bytes k
  in_block k le lt =
      now_within blocks (start / 4096) fresh k le lt
      ∙ laid (k - start / 4096) (omega (arith, le, lt))
      ∙ ap (block_written (block_in old) start bytes) (omega (arith, le))

  -- a byte that is written
  pub now_laid : (i : ℕ) → start ≤ i → i < start + length bytes → byte_in now i ≡ get_or bytes (i - start) 0
  now_laid i le lt =
      ap (λ (b : List ℕ). get_or b (i % 4096) 0) (in_block (i / 4096) (omega (arith, le)) (omega (arith, lt, reach)))
      ∙ laid_within (block_in old) start bytes (i / 4096) (omega (arith, le)) (omega (arith, lt)) i (i % 4096) (omega arith) (omega arith) le lt

  outside : (i : ℕ) → (i < start) ⊎ (start + length bytes ≤ i) → start / 4096 ≤ i / 4096 → i / 4096 < start / 4096 + length fresh → byte_in now i ≡ byte_in (block_in old) i
  outside i (inl lt) from to =
      ap (λ (b : List ℕ). get_or b (i % 4096) 0) (in_block (i / 4096) from to)
      ∙ laid_before (block_in old) start bytes (i / 4096) (omega (arith, from)) (omega (arith, to, reach)) i (i % 4096) (omega arith) (omega arith) lt
  outside i (inr le) from to =
      ap (λ (b : List ℕ). get_or b (i % 4096) 0) (in_block (i / 4096) from to)
      ∙ laid_behind (block_in old) start bytes (i / 4096) (omega (arith, from)) (omega (arith, to, reach)) i (i % 4096) (omega arith) (omega arith) le

  -- another byte
  pub now_kept : (i : ℕ) → (i < start) ⊎ (start + length bytes ≤ i) → byte_in now i ≡ byte_in (block_in old) i
  now_kept i out = elim (cases_lt (i / 4096) (start / 4096)) [
    | inl before ↦ ap (λ (b : List ℕ). get_or b (i % 4096) 0) (now_before blocks (start / 4096) fresh (i / 4096) before ∙ same (i / 4096))
    | inr from ↦ elim (cases_lt (i / 4096) (start / 4096 + length fresh)) [
      | inl to ↦ outside i out from to
      | inr behind ↦ ap (λ (b : List ℕ). get_or b (i % 4096) 0) (now_behind blocks (start / 4096) fresh (i / 4096) behind ∙ same (i / 4096))
    ]
  ]

  pub now_small : ((k : ℕ) → length (block_in old k) ≤ 4096) → (k : ℕ) → length (now k) ≤ 4096
  now_small small k = elim (cases_lt k (start / 4096)) [
    | inl before ↦ omega (arith, ap (λ (b : List ℕ). length b) (now_before blocks (start / 4096) fresh k before ∙ same k), small k)
    | inr from ↦ elim (cases_lt k (start / 4096 + length fresh)) [
      | inl to ↦ omega (arith, ap (λ (b : List ℕ). length b) (in_block k from to), laid_small (block_in old) start bytes k (omega (arith, from)) (omega (arith, to, reach)) (small k))
      | inr behind ↦ omega (arith, ap (λ (b : List ℕ). length b) (now_behind blocks (start / 4096) fresh k behind ∙ same k), small k)
    ]
  ]

  module _ (len : ℕ) (ends : (i : ℕ) → len ≤ i → byte_in (block_in old) i ≡ 0) where
    byte_old : (i : ℕ) → get_or (bytes_from (block_in old) 0 len) i 0 ≡ byte_in (block_in old) i
    byte_old i = elim (cases_lt i len) [
      | inl lt ↦ byte_at (block_in old) 0 len i lt ∙ ap (byte_in (block_in old)) (omega arith)
      | inr le ↦ get_or_past (bytes_from (block_in old) 0 len) i 0 (omega (arith, le, length_bytes (block_in old) 0 len)) ∙ sym (ends i le)
    ]

    each : (i : ℕ) → get_or (written (bytes_from (block_in old) 0 len) start bytes) i 0 ≡ byte_in now i
    each i = elim (cases_lt i start) [
      | inl before ↦ written_before (bytes_from (block_in old) 0 len) bytes start i before ∙ byte_old i ∙ sym (now_kept i (inl before))
      | inr from ↦ elim (cases_lt i (start + length bytes)) [
        | inl to ↦ written_within (bytes_from (block_in old) 0 len) bytes start i from to ∙ sym (now_laid i from to)
        | inr behind ↦ written_behind (bytes_from (block_in old) 0 len) bytes start i behind ∙ byte_old i ∙ sym (now_kept i (inr behind))
      ]
    ]

    pub lays : bytes_from now 0 (max len (start + length bytes)) ≡ written (bytes_from (block_in old) 0 len) start bytes
    lays = sym (are_bytes now 0 (max len (start + length bytes)) (written (bytes_from (block_in old) 0 len) start bytes)
        (length_written (bytes_from (block_in old) 0 len) bytes start ∙ ap (λ n. max n (start + length bytes)) (length_bytes (block_in old) 0 len))
        (λ i lt. each i ∙ ap (byte_in now) (omega arith)))

    pub lays_ends : (i : ℕ) → max len (start + length bytes) ≤ i → byte_in now i ≡ 0
    lays_ends i le = now_kept i (inr (omega (arith, le))) ∙ ends i (omega (arith, le))
