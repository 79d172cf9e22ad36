-- Copies of blocks that are in place.
use Rattle.std.proofs.Common.{◌≡◌, ◌<◌, ◌≤◌, ◌+◌, ◌*◌, ◌/◌, ◌∙◌, ◌++◌, ℕ, Bool, true, false, List, length, take, drop, refl, sym, ap, subst, arith, inl, inr}
use Rattle.std.specs.Prelude.{if◌then◌else◌, IsTrue}
use Rattle.std.proofs.lemmas.Bool.{cases_lt}
use Rattle.std.proofs.lemmas.List.{length-append, take-append-le, drop-append-le, length-drop}
use Rattle.std.proofs.Math.Seq.{drop-append_seam, take-length}
use Rattle.sf_block.specs.Blocks.{block_in, HasPlace, Puts, Filled, Copies, IsHeld, EndsBefore, FileBlocks}

-- no copies
pub held_none : (blocks : FileBlocks) (first : ℕ) (bytes : List ℕ) → length bytes ≡ 0 → IsHeld blocks first bytes
held_none blocks first bytes none = record {
  whole = omega (arith, none);
  places = λ j lt. absurd (omega (arith, lt, none));
  are = λ j lt. absurd (omega (arith, lt, none));
}

-- the same blocks
pub held_same : (old new : FileBlocks) (first : ℕ) (bytes : List ℕ) → ((k : ℕ) → block_in new k ≡ block_in old k) → ((k : ℕ) → HasPlace old k → HasPlace new k)
    → IsHeld old first bytes → IsHeld new first bytes
held_same old new first bytes same kept held = record {
  whole = held.whole;
  places = λ j lt. kept (first + j) (held.places j lt);
  are = λ j lt. same (first + j) ∙ held.are j lt;
}

module _ (old new : FileBlocks) (number : ℕ) (block : List ℕ) (put : Puts old new number block) where
  -- another block was put in place
  pub held_other : (first : ℕ) (bytes : List ℕ) → (0 < length bytes → first + length bytes / 4096 ≡ number) → IsHeld old first bytes → IsHeld new first bytes
  held_other first bytes ends held = record {
    whole = held.whole;
    places = λ j lt. put.kept (first + j) (held.places j lt);
    are = λ j lt. put.others (first + j) (λ e. omega (arith, lt, e, ends (omega (arith, lt)))) ∙ held.are j lt;
  }

  -- the next one was, and it is copied
  pub held_more : (first : ℕ) (bytes : List ℕ) → first + length bytes / 4096 ≡ number → length block ≡ 4096 → HasPlace old number → IsHeld old first bytes → IsHeld new first (bytes ++ block)
  held_more first bytes at full place held =
      let count : length (bytes ++ block) ≡ length bytes + length block = length-append bytes block in
      record {
        whole = omega (arith, count, full, held.whole);
        places = λ j lt. elim (cases_lt j (length bytes / 4096)) [
          | inl before ↦ put.kept (first + j) (held.places j before)
          | inr from ↦
              let here : number ≡ first + j = omega (arith, lt, from, count, full, held.whole, at) in
              subst (HasPlace new) here (put.kept number place)
        ];
        are = λ j lt. elim (cases_lt j (length bytes / 4096)) [
          | inl before ↦
              put.others (first + j) (λ e. omega (arith, before, e, at))
              ∙ held.are j before
              ∙ sym (ap (λ (x : List ℕ). take 4096 x) (drop-append-le (j * 4096) bytes block (omega (arith, before)))
              ∙ take-append-le 4096 (drop (j * 4096) bytes) block (omega (arith, before, length-drop (j * 4096) bytes)))
          | inr from ↦
              let here : j * 4096 ≡ length bytes = omega (arith, lt, from, count, full, held.whole) in
              let next : first + j ≡ number = omega (arith, lt, from, count, full, held.whole, at) in
              ap (block_in new) next
              ∙ put.at
              ∙ sym (ap (λ n. take 4096 (drop n (bytes ++ block))) here
              ∙ ap (λ (x : List ℕ). take 4096 x) (drop-append_seam bytes block)
              ∙ ap (λ n. take n block) (sym full)
              ∙ take-length block)
        ];
      }

  -- the next one was, and it may be copied
  module _ (f g : Filled) (copied : Bool) (ends : EndsBefore f number) (copy : Copies f g number block copied) where
    at : IsHeld old f.from f.bytes → (g.from + length f.bytes / 4096 ≡ number) × IsHeld old g.from f.bytes
    at held = elim (cases_lt 0 (length f.bytes)) [
      | inl some ↦ (omega (arith, copy.later some, ends some), subst (λ n. IsHeld old n f.bytes) (sym (copy.later some)) held)
      | inr none ↦ (omega (arith, none, copy.first (omega (arith, none))), held_none old g.from f.bytes (omega (arith, none)))
    ]

    with_copy : (b : Bool) → (IsTrue b → length block ≡ 4096) → HasPlace old number → g.from + length f.bytes / 4096 ≡ number → IsHeld old g.from f.bytes
        → IsHeld new g.from (if b then f.bytes ++ block else f.bytes)
    with_copy true whole place here held = held_more g.from f.bytes here (whole refl) place held
    with_copy false whole place here held = held_other g.from f.bytes (λ some. here) held

    pub held_put : HasPlace old number → IsHeld old f.from f.bytes → IsHeld new g.from g.bytes
    held_put place held = subst (IsHeld new g.from) (sym copy.bytes) (with_copy copied copy.full place (at held).0 (at held).1)

    pub ends_put : IsTrue copied → IsHeld old f.from f.bytes → EndsBefore g (number + 1)
    ends_put sure held some =
        let more : g.bytes ≡ f.bytes ++ block = copy.bytes ∙ ap (λ b. if b then f.bytes ++ block else f.bytes) sure in
        omega (arith, ap (λ (x : List ℕ). length x) more, length-append f.bytes block, copy.full sure, (at held).0, held.whole)

    end : (b : Bool) → (IsTrue b → length block ≡ 4096) → IsHeld old g.from f.bytes → g.from + length f.bytes / 4096 ≡ number
        → g.from + length (if b then f.bytes ++ block else f.bytes) / 4096 ≤ number + 1
    end true whole held here = omega (arith, length-append f.bytes block, whole refl, held.whole, here)
    end false whole held here = omega (arith, here)

    pub end_put : IsHeld old f.from f.bytes → g.from + length g.bytes / 4096 ≤ number + 1
    end_put held = subst (λ (x : List ℕ). g.from + length x / 4096 ≤ number + 1) (sym copy.bytes) (end copied copy.full (at held).1 (at held).0)
