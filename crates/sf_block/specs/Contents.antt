-- The contents of a file in contracts, and the effects of a resize and of a write.
use Rattle.std.specs.Prelude.{ℕ, zero, suc, ◌+◌, ◌-◌, ◌/◌, List, [], ◌∷◌, ◌++◌, length, take, drop, replicate}

-- The bytes, including those still to be copied, and the number of blocks still to be copied.
pub record FileBytes : Type 0 where
  pub bytes : List ℕ
  pub left : ℕ

-- no block is left to be copied
abbrev pub complete : List ℕ → FileBytes
complete bytes = record { bytes = bytes; left = 0 }

-- truncated to a size, or extended to it with zeros (POSIX, ftruncate)
abbrev pub resized : List ℕ → ℕ → List ℕ
resized contents size = take size contents ++ replicate (size - length contents) 0

-- The bytes from `start` on are replaced; a gap before them is filled with zeros (POSIX, write).
abbrev pub written : List ℕ → ℕ → List ℕ → List ℕ
written contents start bytes =
    resized contents start ++ bytes ++ drop (start + length bytes) contents

-- the number of 4096-byte blocks that bytes from `start` on touch
abbrev pub blocks_of : ℕ → List ℕ → ℕ
blocks_of start [] = 0
blocks_of start (b ∷ bytes) = (start + length bytes) / 4096 + 1 - start / 4096

-- a write that has copied no block yet
abbrev pub writing : List ℕ → ℕ → List ℕ → FileBytes
writing contents start bytes =
    record { bytes = written contents start bytes; left = blocks_of start bytes }

-- the most blocks that these bytes touch at any start
abbrev pub most_blocks : List ℕ → ℕ
most_blocks bytes = (length bytes + 4095) / 4096 + 1

-- one block was copied, and then n blocks
abbrev pub copied_one : FileBytes → FileBytes
copied_one file = record { bytes = file.bytes; left = file.left - 1 }

abbrev pub copied : ℕ → FileBytes → FileBytes
copied zero file = file
copied (suc n) file = copied n (copied_one file)
