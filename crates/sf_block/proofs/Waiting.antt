-- The effect of changed blocks on the bytes.
use Rattle.std.proofs.Common.{◌≡◌, ◌<◌, ◌≤◌, ◌+◌, ◌-◌, ◌∙◌, ℕ, suc, List, [], ◌∷◌, length, get_or, sym, ap, arith, inl, inr}
use Rattle.std.specs.Prelude.{◌≢◌}
use Rattle.std.proofs.lemmas.Bool.{cases_lt, cases_eq}
use Rattle.std.proofs.lemmas.Grind.{common_steps}
use Rattle.sf_block.specs.Blocks.{block_in, block_now, Puts, FileBlocks}

module _ (blocks : FileBlocks) (first : ℕ) (fresh : List (List ℕ)) where
  pub now_within : (k : ℕ) → first ≤ k → k < first + length fresh → block_now blocks first fresh k ≡ get_or fresh (k - first) []
  now_within k le lt = grind (arith, common_steps)

  pub now_before : (k : ℕ) → k < first → block_now blocks first fresh k ≡ block_in blocks k
  now_before k lt = grind (arith, common_steps)

  pub now_behind : (k : ℕ) → first + length fresh ≤ k → block_now blocks first fresh k ≡ block_in blocks k
  now_behind k le = grind (arith, common_steps)

  pub now_none : length fresh ≡ 0 → (k : ℕ) → block_now blocks first fresh k ≡ block_in blocks k
  now_none none k = elim (cases_lt k first) [ inl lt ↦ now_before k lt | inr ge ↦ now_behind k (omega (arith, none, ge)) ]

-- other blocks with the same bytes
pub now_same : (old new : FileBlocks) (first : ℕ) (fresh : List (List ℕ)) → ((k : ℕ) → block_in new k ≡ block_in old k)
    → (k : ℕ) → block_now new first fresh k ≡ block_now old first fresh k
now_same old new first fresh same k = elim (cases_lt k first) [
  | inl lt ↦ now_before new first fresh k lt ∙ same k ∙ sym (now_before old first fresh k lt)
  | inr ge ↦ elim (cases_lt k (first + length fresh)) [
    | inl lt ↦ now_within new first fresh k ge lt ∙ sym (now_within old first fresh k ge lt)
    | inr le ↦ now_behind new first fresh k le ∙ same k ∙ sym (now_behind old first fresh k le)
  ]
]

-- the first pending block is in place
pub now_put : (old new : FileBlocks) (first : ℕ) (fresh left : List (List ℕ)) (block : List ℕ) → fresh ≡ block ∷ left → Puts old new first block
    → (k : ℕ) → block_now new (first + 1) left k ≡ block_now old first fresh k
now_put old new first fresh left block is put k =
    let len : length fresh ≡ length left + 1 = ap (λ (x : List (List ℕ)). length x) is ∙ omega arith in
    elim (cases_lt k first) [
      | inl lt ↦ now_before new (first + 1) left k (omega (arith, lt)) ∙ put.others k (λ e. omega (arith, lt, e)) ∙ sym (now_before old first fresh k lt)
      | inr ge ↦ elim (cases_eq k first) [
        | inl e ↦
            let zero : k - first ≡ 0 = omega (arith, e) in
            now_before new (first + 1) left k (omega (arith, e))
            ∙ ap (block_in new) e
            ∙ put.at
            ∙ sym (ap (λ i. get_or (block ∷ left) i []) zero)
            ∙ sym (ap (λ (x : List (List ℕ)). get_or x (k - first) []) is)
            ∙ sym (now_within old first fresh k ge (omega (arith, e, len)))
        | inr ne ↦
            let past : first + 1 ≤ k = (let other : k ≢ first = ne in grind (arith, other, ge)) in
            elim (cases_lt k (first + length fresh)) [
              | inl lt ↦
                  let more : k - first ≡ suc (k - (first + 1)) = omega (arith, past) in
                  now_within new (first + 1) left k past (omega (arith, lt, len))
                  ∙ sym (ap (λ i. get_or (block ∷ left) i []) more)
                  ∙ sym (ap (λ (x : List (List ℕ)). get_or x (k - first) []) is)
                  ∙ sym (now_within old first fresh k ge lt)
              | inr le ↦
                  now_behind new (first + 1) left k (omega (arith, le, len))
                  ∙ put.others k ne
                  ∙ sym (now_behind old first fresh k le)
            ]
      ]
    ]
