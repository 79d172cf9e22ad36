-- Runs in one buffer.
use Rattle.std.proofs.Common.{◌≡◌, ◌<◌, ◌≤◌, ◌+◌, ◌*◌, ◌-◌, ◌/◌, ◌%◌, ◌∙◌, ℕ, min, max, List, length, get_or, take, drop, Some, inl, inr, sym, ap, subst, arith}
use Rattle.std.specs.Prelude.{◌⊎◌}
use Rattle.std.proofs.lemmas.List.{length-take, length-drop, get_or-take, get_or-drop}
use Rattle.sf_block.specs.Blocks.{run_in, byte_in, bytes_from, IsRun, AreRuns, IsNoted, IsHeld, IsRunOf, block_in, FileBlocks}
use Rattle.sf_block.proofs.Places.{are_bytes}

-- the same blocks
pub runs_same : (runs : List (ℕ × List ℕ)) (f g : ℕ → List ℕ) (len : ℕ) → ((k : ℕ) → g k ≡ f k) → AreRuns runs f len → AreRuns runs g len
runs_same runs f g len same are = λ k run at. subst (λ (b : ℕ → List ℕ). IsRun b len k run) (λ i j. sym (same j) i) (are k run at)

-- runs were removed
pub runs_fewer : (old new : List (ℕ × List ℕ)) (f : ℕ → List ℕ) (len : ℕ) → ((k : ℕ) (run : List ℕ) → run_in new k ≡ Some run → run_in old k ≡ Some run)
    → AreRuns old f len → AreRuns new f len
runs_fewer old new f len fewer are = λ k run at. are k run (fewer k run at)

-- a longer file
pub runs_longer : (runs : List (ℕ × List ℕ)) (f : ℕ → List ℕ) (len n : ℕ) → len ≤ n → AreRuns runs f len → AreRuns runs f n
runs_longer runs f len n le are = λ k run at. let r = are k run at in record { whole = r.whole; within = omega (arith, r.within, le); bytes = r.bytes }

-- a shorter file
pub runs_cut : (old new : List (ℕ × List ℕ)) (f g : ℕ → List ℕ) (len n : ℕ) → AreRuns old f len → ((i : ℕ) → i < n → byte_in g i ≡ byte_in f i)
    → ((k : ℕ) (run : List ℕ) → run_in new k ≡ Some run → (k < n / 32768) × (run_in old k ≡ Some run)) → AreRuns new g n
runs_cut old new f g len n are same kept = λ k run at.
    let w = kept k run at in
    let r = are k run w.1 in
    record {
      whole = r.whole;
      within = omega (arith, w.0);
      bytes = λ i lt. r.bytes i lt ∙ sym (same (k * 32768 + i) (omega (arith, w.0, lt)));
    }

-- after a write: the other runs are unchanged
pub record Wrote (f g : ℕ → List ℕ) (start : ℕ) (bytes : List ℕ) : Type 0 where
  pub some : 0 < length bytes
  pub kept : (i : ℕ) → (i < start) ⊎ (start + length bytes ≤ i) → byte_in g i ≡ byte_in f i
  pub laid : (i : ℕ) → start ≤ i → i < start + length bytes → byte_in g i ≡ get_or bytes (i - start) 0

pub runs_noted : (old new : List (ℕ × List ℕ)) {f g : ℕ → List ℕ} (len : ℕ) {start : ℕ} {bytes : List ℕ} → AreRuns old f len → Wrote f g start bytes
    → ((k : ℕ) (run : List ℕ) → run_in new k ≡ Some run → IsNoted old start bytes k run) → AreRuns new g (max len (start + length bytes))
runs_noted old new len {start = start} {bytes = bytes} are wrote noted = λ k run at. elim (noted k run at) [
  | inl w ↦
      let r = are k run w.0 in
      record {
        whole = r.whole;
        within = omega (arith, r.within);
        bytes = λ i lt. r.bytes i lt ∙ sym (wrote.kept (k * 32768 + i) (elim w.1 [ inl before ↦ inl (omega (arith, before, lt)) | inr behind ↦ inr (omega (arith, behind)) ]));
      }
  | inr w ↦
      record {
        whole = ap (λ (x : List ℕ). length x) w.0 ∙ w.1;
        within = omega (arith, w.1, w.2);
        bytes = λ i lt.
            ap (λ (x : List ℕ). get_or x i 0) w.0
            ∙ ap (λ j. get_or bytes j 0) (omega (arith, w.2))
            ∙ sym (wrote.laid (k * 32768 + i) (omega (arith, w.2)) (omega (arith, w.1, w.2, lt)));
      }
]

-- copies of blocks that are in place
pub record InPlace (blocks : FileBlocks) (g : ℕ → List ℕ) (first : ℕ) (bytes : List ℕ) : Type 0 where
  pub held : IsHeld blocks first bytes
  pub same : (j : ℕ) → j < length bytes / 4096 → g (first + j) ≡ block_in blocks (first + j)

-- a run of them was inserted
pub runs_held : (old new : List (ℕ × List ℕ)) {blocks : FileBlocks} {g : ℕ → List ℕ} {first : ℕ} {bytes : List ℕ} (len : ℕ) → AreRuns old g len → InPlace blocks g first bytes
    → ((k : ℕ) (run : List ℕ) → run_in new k ≡ Some run → (run_in old k ≡ Some run) ⊎ IsRunOf first bytes len k run) → AreRuns new g len
runs_held old new {g = g} {first = first} {bytes = bytes} len are copies put = λ k run at. elim (put k run at) [
  | inl was ↦ are k run was
  | inr is ↦
      record {
        whole = ap (λ (x : List ℕ). length x) is.is ∙ is.whole;
        within = is.within;
        bytes = λ i lt.
            let j = i / 4096 in
            let few : j < length bytes / 4096 = omega (arith, lt, is.whole) in
            let cut : i ≡ j * 4096 + i % 4096 = omega arith in
            let block : first + j ≡ (k * 32768 + i) / 4096 = omega (arith, is.at) in
            let place : i % 4096 ≡ (k * 32768 + i) % 4096 = omega arith in
            ap (λ (x : List ℕ). get_or x i 0) is.is
            ∙ ap (λ n. get_or bytes n 0) cut
            ∙ sym (get_or-drop (j * 4096) bytes (i % 4096) 0)
            ∙ sym (get_or-take 4096 (drop (j * 4096) bytes) (i % 4096) 0 (omega arith))
            ∙ sym (ap (λ (b : List ℕ). get_or b (i % 4096) 0) (copies.held.are j few))
            ∙ sym (ap (λ (b : List ℕ). get_or b (i % 4096) 0) (copies.same j few))
            ∙ ap (λ n. get_or (g n) (i % 4096) 0) block
            ∙ ap (λ n. get_or (g ((k * 32768 + i) / 4096)) n 0) place;
      }
]

-- a part of a run
pub run_read : (block : ℕ → List ℕ) (len k start n : ℕ) (run : List ℕ) → IsRun block len k run → k ≡ start / 32768 → start % 32768 + n ≤ 32768
    → take (start % 32768 + n - start % 32768) (drop (start % 32768) run) ≡ bytes_from block start n
run_read block len k start n run r at fits =
    let from = start % 32768 in
    let m = from + n - from in
    let d : length (drop from run) ≡ length run - from = length-drop from run in
    let t : length (take m (drop from run)) ≡ min m (length (drop from run)) = length-take m (drop from run) in
    are_bytes block start n (take m (drop from run)) (omega (arith, d, t, r.whole, fits))
    (λ i lt.
    get_or-take m (drop from run) i 0 (omega (arith, lt))
    ∙ get_or-drop from run i 0
    ∙ r.bytes (from + i) (omega (arith, fits, lt))
    ∙ ap (byte_in block) (omega (arith, at)))
