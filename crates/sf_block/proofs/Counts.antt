-- The number of blocks of a write, and of those left.
use Rattle.std.proofs.Common.{◌≡◌, ◌≤◌, ◌+◌, ◌-◌, ◌/◌, ◌∙◌, ℕ, zero, suc, List, [], ◌∷◌, length, refl, ap, arith}
use Rattle.sf_block.specs.Contents.{FileBytes, complete, blocks_of, most_blocks, copied_one, copied}
use Rattle.sf_block.proofs.Laying.{last_block}

pub blocks_few : (start : ℕ) (bytes : List ℕ) → blocks_of start bytes ≤ most_blocks bytes
blocks_few start [] = omega arith
blocks_few start (b ∷ bytes) = omega arith

pub four_blocks : (bytes : List ℕ) → length bytes ≡ 10000 → blocks_of 4000 bytes ≡ 4
four_blocks bytes is = last_block 4000 bytes (omega (arith, is)) ∙ ap (λ n. (4000 + n - 1) / 4096 + 1 - 4000 / 4096) is

copied_bytes : (n : ℕ) (file : FileBytes) → (copied n file).bytes ≡ file.bytes
copied_bytes zero file = refl
copied_bytes (suc n) file = copied_bytes n (copied_one file)

pub copied_rest : (n : ℕ) (file : FileBytes) → complete (copied n file).bytes ≡ complete file.bytes
copied_rest n file = ap complete (copied_bytes n file)

copied_left : (n : ℕ) (file : FileBytes) → (copied n file).left ≡ file.left - n
copied_left zero file = omega arith
copied_left (suc n) file = copied_left n (copied_one file) ∙ omega arith

pub copied_all : (file : FileBytes) → copied file.left file ≡ complete file.bytes
copied_all file =
    let none : (copied file.left file).left ≡ 0 = copied_left file.left file ∙ omega arith in
    λ i. record { bytes = copied_bytes file.left file i; left = none i }
