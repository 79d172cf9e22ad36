-- The effect of a changed row on the blocks.
use Rattle.std.proofs.Common.{◌≡◌, ◌<◌, ◌≤◌, ◌+◌, ◌/◌, ◌%◌, ◌∙◌, ℕ, min, take, List, [], length, get_or, sym, ap, subst, arith, inl, inr}
use Rattle.std.specs.Prelude.{◌≢◌, nat_lt, if◌then◌else◌}
use Rattle.std.proofs.lemmas.Bool.{cases_lt, cases_eq}
use Rattle.std.proofs.lemmas.List.{length-take, get_or-take, get_or_past}
use Rattle.sf_block.specs.Blocks.{FileBlocks, row_in, block_in, byte_in, HasPlace, Puts, PutsInRow}
use Rattle.sf_block.proofs.Places.{if_below, if_above}

module _ (old new : FileBlocks) (number : ℕ) (block : List ℕ) (put : PutsInRow (row_in old (number / 8)) (row_in new (number / 8)) (number % 8) block)
    (others : (r : ℕ) → r ≢ number / 8 → row_in new r ≡ row_in old r) where
  other_block : (k : ℕ) → k ≢ number → block_in new k ≡ block_in old k
  other_block k ne = elim (cases_eq (k / 8) (number / 8)) [
    | inl e ↦
        ap (λ r. get_or (row_in new r) (k % 8) []) e
        ∙ put.others (k % 8) (λ m. ne (omega (arith, e, m)))
        ∙ sym (ap (λ r. get_or (row_in old r) (k % 8) []) e)
    | inr not ↦ ap (λ (row : List (List ℕ)). get_or row (k % 8) []) (others (k / 8) not)
  ]

  still_there : (k : ℕ) → HasPlace old k → HasPlace new k
  still_there k lt = elim (cases_eq (k / 8) (number / 8)) [
    | inl e ↦
        let was : k % 8 < length (row_in old (number / 8)) = subst (λ r. k % 8 < length (row_in old r)) e lt in
        subst (λ r. k % 8 < length (row_in new r)) (sym e) (omega (arith, put.kept, was))
    | inr not ↦ subst (λ (row : List (List ℕ)). k % 8 < length row) (sym (others (k / 8) not)) lt
  ]

  -- a block was put into its row
  pub puts_row : Puts old new number block
  puts_row = record { at = put.at; others = other_block; kept = still_there }

-- the later rows were removed, and the blocks of a row from an index on
module _ (old mid new : FileBlocks) (end : ℕ) (rows : (r : ℕ) → row_in mid r ≡ (if nat_lt r (end / 8 + 1) then row_in old r else []))
    (at : (j : ℕ) → get_or (row_in new (end / 8)) j [] ≡ (if nat_lt j (end % 8) then get_or (row_in mid (end / 8)) j [] else []))
    (others : (r : ℕ) → r ≢ end / 8 → row_in new r ≡ row_in mid r) where
  stays : (k : ℕ) → k < end → block_in new k ≡ block_in old k
  stays k lt = elim (cases_eq (k / 8) (end / 8)) [
    | inl e ↦
        ap (λ r. get_or (row_in new r) (k % 8) []) e
        ∙ at (k % 8)
        ∙ if_below (k % 8) (end % 8) (get_or (row_in mid (end / 8)) (k % 8) []) [] (omega (arith, e, lt))
        ∙ ap (λ (row : List (List ℕ)). get_or row (k % 8) []) (rows (end / 8) ∙ if_below (end / 8) (end / 8 + 1) (row_in old (end / 8)) [] (omega arith))
        ∙ sym (ap (λ r. get_or (row_in old r) (k % 8) []) e)
    | inr not ↦
        ap (λ (row : List (List ℕ)). get_or row (k % 8) []) (others (k / 8) not ∙ rows (k / 8) ∙ if_below (k / 8) (end / 8 + 1) (row_in old (k / 8)) [] (omega (arith, lt)))
  ]

  gone : (k : ℕ) → end ≤ k → block_in new k ≡ []
  gone k le = elim (cases_eq (k / 8) (end / 8)) [
    | inl e ↦
        ap (λ r. get_or (row_in new r) (k % 8) []) e
        ∙ at (k % 8)
        ∙ if_above (k % 8) (end % 8) (get_or (row_in mid (end / 8)) (k % 8) []) [] (omega (arith, e, le))
    | inr not ↦
        let more : end / 8 + 1 ≤ k / 8 = grind (arith, not, le) in
        ap (λ (row : List (List ℕ)). get_or row (k % 8) []) (others (k / 8) not ∙ rows (k / 8) ∙ if_above (k / 8) (end / 8 + 1) (row_in old (k / 8)) [] more)
  ]

  pub dropped : (k : ℕ) → block_in new k ≡ (if nat_lt k end then block_in old k else [])
  dropped k = elim (cases_lt k end) [
    | inl lt ↦ stays k lt ∙ sym (if_below k end (block_in old k) [] lt)
    | inr le ↦ gone k le ∙ sym (if_above k end (block_in old k) [] le)
  ]

-- the later blocks were removed, and the bytes of a block from an offset on
module _ (old mid new : FileBlocks) (n : ℕ) (dropped : (k : ℕ) → block_in mid k ≡ (if nat_lt k (n / 4096 + 1) then block_in old k else []))
    (put : Puts mid new (n / 4096) (take (n % 4096) (block_in mid (n / 4096)))) where
  own : block_in mid (n / 4096) ≡ block_in old (n / 4096)
  own = dropped (n / 4096) ∙ if_below (n / 4096) (n / 4096 + 1) (block_in old (n / 4096)) [] (omega arith)

  cut_stays : (i : ℕ) → i < n → byte_in (block_in new) i ≡ byte_in (block_in old) i
  cut_stays i lt = elim (cases_eq (i / 4096) (n / 4096)) [
    | inl e ↦
        ap (λ k. get_or (block_in new k) (i % 4096) 0) e
        ∙ ap (λ (b : List ℕ). get_or b (i % 4096) 0) put.at
        ∙ get_or-take (n % 4096) (block_in mid (n / 4096)) (i % 4096) 0 (omega (arith, e, lt))
        ∙ ap (λ (b : List ℕ). get_or b (i % 4096) 0) own
        ∙ sym (ap (λ k. get_or (block_in old k) (i % 4096) 0) e)
    | inr not ↦
        ap (λ (b : List ℕ). get_or b (i % 4096) 0)
        (put.others (i / 4096) not ∙ dropped (i / 4096) ∙ if_below (i / 4096) (n / 4096 + 1) (block_in old (i / 4096)) [] (omega (arith, lt)))
  ]

  cut_gone : (i : ℕ) → n ≤ i → byte_in (block_in new) i ≡ 0
  cut_gone i le = elim (cases_eq (i / 4096) (n / 4096)) [
    | inl e ↦
        let len : length (take (n % 4096) (block_in mid (n / 4096))) ≡ min (n % 4096) (length (block_in mid (n / 4096))) = length-take (n % 4096) (block_in mid (n / 4096)) in
        ap (λ k. get_or (block_in new k) (i % 4096) 0) e
        ∙ ap (λ (b : List ℕ). get_or b (i % 4096) 0) put.at
        ∙ get_or_past (take (n % 4096) (block_in mid (n / 4096))) (i % 4096) 0 (omega (arith, e, le, len))
    | inr not ↦
        let more : n / 4096 + 1 ≤ i / 4096 = grind (arith, not, le) in
        ap (λ (b : List ℕ). get_or b (i % 4096) 0)
        (put.others (i / 4096) not ∙ dropped (i / 4096) ∙ if_above (i / 4096) (n / 4096 + 1) (block_in old (i / 4096)) [] more)
  ]

  pub cut_bytes : (i : ℕ) → byte_in (block_in new) i ≡ (if nat_lt i n then byte_in (block_in old) i else 0)
  cut_bytes i = elim (cases_lt i n) [
    | inl lt ↦ cut_stays i lt ∙ sym (if_below i n (byte_in (block_in old) i) 0 lt)
    | inr le ↦ cut_gone i le ∙ sym (if_above i n (byte_in (block_in old) i) 0 le)
  ]

  pub cut_less : (k : ℕ) → length (block_in new k) ≤ length (block_in old k)
  cut_less k = elim (cases_eq k (n / 4096)) [
    | inl e ↦
        let len : length (take (n % 4096) (block_in mid (n / 4096))) ≡ min (n % 4096) (length (block_in mid (n / 4096))) = length-take (n % 4096) (block_in mid (n / 4096)) in
        let now : length (block_in new k) ≡ length (take (n % 4096) (block_in mid (n / 4096))) = ap (λ j. length (block_in new j)) e ∙ ap (λ (b : List ℕ). length b) put.at in
        let was : length (block_in mid (n / 4096)) ≡ length (block_in old k) = ap (λ (b : List ℕ). length b) own ∙ sym (ap (λ j. length (block_in old j)) e) in
        omega (arith, len, now, was)
    | inr not ↦ elim (cases_lt k (n / 4096 + 1)) [
      | inl lt ↦ omega (arith, ap (λ (b : List ℕ). length b) (put.others k not ∙ dropped k ∙ if_below k (n / 4096 + 1) (block_in old k) [] lt))
      | inr le ↦ omega (arith, ap (λ (b : List ℕ). length b) (put.others k not ∙ dropped k ∙ if_above k (n / 4096 + 1) (block_in old k) [] le))
    ]
  ]
