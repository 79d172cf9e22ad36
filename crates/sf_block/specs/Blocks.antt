-- No public clause cites this module.
-- The representation of a file's bytes: numbered blocks of 4096 bytes. A missing block is zeros,
-- and so is the missing end of a shorter one.
use Rattle.std.specs.Prelude.{◌≡◌, ◌⊎◌, ◌≢◌, ◌<◌, ◌≤◌, ◌+◌, ◌-◌, ◌*◌, ◌/◌, ◌%◌, ℕ, zero, suc, max, min, nat_le, nat_lt, ◌&&◌, if◌then◌else◌, Bool, IsTrue, List, [], ◌∷◌, ◌++◌, map, length, take, drop, Option, Some, None, slice_index_or}
use Rattle.std.specs.Option.{unwrap_or}
use Rattle.std.specs.List.{range_with_len}
use Rattle.std.specs.Ordering.{nat_cmp}
use Rattle.std.specs.Map.{lookup}
use Rattle.std.specs.BTreeMap.{is_at}
use Rattle.sf_block.specs.Contents.{written}

abbrev pub entry_in : {X : Type 0} → List (ℕ × X) → ℕ → Option X
entry_in entries k = lookup (is_at (nat_cmp k)) entries

-- an empty run counts as missing
abbrev pub unless_empty : Option (List ℕ) → Option (List ℕ)
unless_empty None = None
unless_empty (Some []) = None
unless_empty (Some (b ∷ bytes)) = Some (b ∷ bytes)

-- the run with this number
abbrev pub run_in : List (ℕ × List ℕ) → ℕ → Option (List ℕ)
run_in runs k = unless_empty (entry_in runs k)

-- the first eight blocks, and the others in rows of eight
pub record FileBlocks : Type 0 where
  pub near : List (List ℕ)
  pub far : List (ℕ × List (List ℕ))

-- the row with this number; a missing row has no blocks
abbrev pub row_in : FileBlocks → ℕ → List (List ℕ)
row_in blocks zero = blocks.near
row_in blocks (suc r) = unwrap_or (entry_in blocks.far (suc r)) []

-- the block with this number
abbrev pub block_in : FileBlocks → ℕ → List ℕ
block_in blocks k = slice_index_or (row_in blocks (k / 8)) (k % 8) []

-- the block with this number has a place in its row
abbrev pub HasPlace : FileBlocks → ℕ → Type 0
HasPlace blocks k = k % 8 < length (row_in blocks (k / 8))

-- the byte at an offset
abbrev pub byte_in : (ℕ → List ℕ) → ℕ → ℕ
byte_in block i = slice_index_or (block (i / 4096)) (i % 4096) 0

-- the bytes in a range of offsets
abbrev pub bytes_from : (ℕ → List ℕ) → ℕ → ℕ → List ℕ
bytes_from block start n = map (byte_in block) (range_with_len start n)

-- the blocks, some of them replaced by pending ones that are numbered from `first` on
abbrev pub block_now : FileBlocks → ℕ → List (List ℕ) → ℕ → List ℕ
block_now blocks first fresh k =
    if nat_le first k && nat_lt k (first + length fresh) then slice_index_or fresh (k - first) []
    else block_in blocks k

-- a block was put in its place, and no other changed
pub record Puts (old new : FileBlocks) (number : ℕ) (block : List ℕ) : Type 0 where
  pub at : block_in new number ≡ block
  pub others : (k : ℕ) → k ≢ number → block_in new k ≡ block_in old k
  pub kept : (k : ℕ) → HasPlace old k → HasPlace new k

-- the same in a row
pub record PutsInRow (old new : List (List ℕ)) (i : ℕ) (block : List ℕ) : Type 0 where
  pub at : slice_index_or new i [] ≡ block
  pub others : (j : ℕ) → j ≢ i → slice_index_or new j [] ≡ slice_index_or old j []
  pub kept : length old ≤ length new

-- the part of the written bytes that lies in a block: its offset in the block, and its bytes
abbrev pub place_in : ℕ → ℕ → ℕ
place_in start k = max start (k * 4096) - k * 4096

abbrev pub part_in : ℕ → List ℕ → ℕ → List ℕ
part_in start bytes k =
    take (min (start + length bytes) (k * 4096 + 4096) - max start (k * 4096))
    (drop (max start (k * 4096) - start) bytes)

-- a block with the written bytes that lie in it
abbrev pub block_written : (ℕ → List ℕ) → ℕ → List ℕ → ℕ → List ℕ
block_written block start bytes k = written (block k) (place_in start k) (part_in start bytes k)

-- a run: 32768 bytes in one buffer, equal to those of its blocks
pub record IsRun (block : ℕ → List ℕ) (len k : ℕ) (run : List ℕ) : Type 0 where
  pub whole : length run ≡ 32768
  pub within : k * 32768 + 32768 ≤ len
  pub bytes : (i : ℕ) → i < 32768 → slice_index_or run i 0 ≡ byte_in block (k * 32768 + i)

-- the runs have the bytes of their blocks
abbrev pub HasBytes : List (ℕ × List ℕ) → (ℕ → List ℕ) → Type 0
HasBytes runs block =
    (k : ℕ) (run : List ℕ) → run_in runs k ≡ Some run → (i : ℕ) → i < 32768
    → slice_index_or run i 0 ≡ byte_in block (k * 32768 + i)

abbrev pub AreRuns : List (ℕ × List ℕ) → (ℕ → List ℕ) → ℕ → Type 0
AreRuns runs block len =
    (k : ℕ) (run : List ℕ) → run_in runs k ≡ Some run → IsRun block len k run

-- after a write, a run is an old one that the write did not touch, or it is the written bytes
abbrev pub IsNoted : List (ℕ × List ℕ) → ℕ → List ℕ → ℕ → List ℕ → Type 0
IsNoted old offset bytes k run =
    ((run_in old k ≡ Some run)
    × ((k < offset / 32768) ⊎ ((offset + length bytes - 1) / 32768 < k)))
    ⊎ ((run ≡ bytes) × (length bytes ≡ 32768) × (offset ≡ k * 32768))

-- copies of blocks that are in place: the number of the first, and all their bytes
pub record Filled : Type 0 where
  pub from : ℕ
  pub bytes : List ℕ

-- no copies
abbrev pub unfilled : Filled
unfilled = record { from = 0; bytes = [] }

-- the pending blocks of a write, and copies of the last ones that were put in place
pub record WaitingBlocks : Type 0 where
  pub fresh : List (List ℕ)
  pub filled : Filled

-- the rest of a write: the number of the first pending block, the pending blocks, and the copies
pub record PendingWrite : Type 0 where
  pub first : ℕ
  pub fresh : List (List ℕ)
  pub filled : Filled

-- a block that was put in place was appended to the copies, or was not
pub record Copies (old new : Filled) (number : ℕ) (block : List ℕ) (copied : Bool) : Type 0 where
  pub full : IsTrue copied → length block ≡ 4096
  pub bytes : new.bytes ≡ (if copied then old.bytes ++ block else old.bytes)
  pub first : length old.bytes ≡ 0 → new.from ≡ number
  pub later : 0 < length old.bytes → new.from ≡ old.from

-- the first pending block is taken out to be put in place, and may be copied
pub record TakesNext (old new : PendingWrite) (number : ℕ) (block : List ℕ) (copied : Bool)
    : Type 0 where
  pub at : number ≡ old.first
  pub next : new.first ≡ old.first + 1
  pub is : old.fresh ≡ block ∷ new.fresh
  pub copies : Copies old.filled new.filled number block copied

-- consecutive whole blocks have these bytes
pub record IsHeld (blocks : FileBlocks) (first : ℕ) (bytes : List ℕ) : Type 0 where
  pub whole : length bytes % 4096 ≡ 0
  pub places : (j : ℕ) → j < length bytes / 4096 → HasPlace blocks (first + j)
  pub are : (j : ℕ) → j < length bytes / 4096
      → block_in blocks (first + j) ≡ take 4096 (drop (j * 4096) bytes)

-- the block after the copies, if there are any, has this number
abbrev pub EndsBefore : Filled → ℕ → Type 0
EndsBefore filled next =
    0 < length filled.bytes → filled.from + length filled.bytes / 4096 ≡ next

-- a run is these bytes: whole blocks from a number on, in a file that is long enough
pub record IsRunOf (first : ℕ) (bytes : List ℕ) (len k : ℕ) (run : List ℕ) : Type 0 where
  pub at : first ≡ k * 8
  pub whole : length bytes ≡ 32768
  pub within : k * 32768 + 32768 ≤ len
  pub is : run ≡ bytes
