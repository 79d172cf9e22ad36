-- The bytes of missing blocks are zeros.
use Rattle.std.proofs.Common.{◌≡◌, ◌<◌, ◌≤◌, ◌+◌, ◌-◌, ◌*◌, ◌/◌, ◌%◌, ◌∙◌, ℕ, min, List, [], get_or, take, drop, replicate, refl, sym, ap, arith}
use Rattle.std.proofs.lemmas.List.{length-replicate, get_or_past}
use Rattle.sf_block.specs.Blocks.{byte_in, block_in, bytes_from, FileBlocks}
use Rattle.sf_block.proofs.Places.{are_bytes, read_is, zero_at}

missing_byte : (blocks : FileBlocks) (i : ℕ) → block_in blocks (i / 4096) ≡ [] → byte_in (block_in blocks) i ≡ 0
missing_byte blocks i none = ap (λ (b : List ℕ). get_or b (i % 4096) 0) none ∙ get_or_past [] (i % 4096) 0 (omega arith)

zeros_are : (block : ℕ → List ℕ) (len offset n : ℕ) → n ≤ len - offset → ((i : ℕ) → offset ≤ i → i < offset + n → byte_in block i ≡ 0) → take n (drop offset (bytes_from block 0 len)) ≡ replicate n 0
zeros_are block len offset n fits zero =
    let start : ℕ = min offset len in
    sym (read_is block len offset n start n refl (omega (arith, fits)))
    ∙ sym (are_bytes block start n (replicate n 0) (length-replicate n 0)
    (λ i lt. zero_at n i ∙ sym (zero (start + i) (omega (arith, lt, fits)) (omega (arith, lt, fits)))))

-- up to a row, if all blocks before it are missing
pub zeros_before : (blocks : FileBlocks) (len offset n row : ℕ) → ((k : ℕ) → offset / 32768 * 8 ≤ k → k < row * 8 → block_in blocks k ≡ []) → n ≤ len - offset → n ≤ row * 32768 - offset
    → take n (drop offset (bytes_from (block_in blocks) 0 len)) ≡ replicate n 0
zeros_before blocks len offset n row none fits before =
    zeros_are (block_in blocks) len offset n fits (λ i from to. missing_byte blocks i (none (i / 4096) (omega (arith, from)) (omega (arith, from, to, before))))

-- up to the end
pub zeros_behind : (blocks : FileBlocks) (len offset n : ℕ) → ((k : ℕ) → offset / 32768 * 8 ≤ k → block_in blocks k ≡ []) → n ≤ len - offset
    → take n (drop offset (bytes_from (block_in blocks) 0 len)) ≡ replicate n 0
zeros_behind blocks len offset n none fits =
    zeros_are (block_in blocks) len offset n fits (λ i from to. missing_byte blocks i (none (i / 4096) (omega (arith, from))))
