-- A snapshot of a tree, for C.
use Rattle.std.specs.Prelude.{◌≡◌, ◌⊎◌, ◌++◌, ℕ, ℤ, pos, negsuc, List, [], length, min, take, drop, replicate, slice_get, Option, Some, None}
use Rattle.sf_path.specs.Names.{text_of}
use Rattle.sf_call.specs.Attributes.{attrs_of}
use Rattle.sf_call.specs.Histories.{replay}
use Rattle.sf_call.specs.Leaves.{Leaf, leaves_of, contents_of}
use Rattle.sf_engine.specs.Views.{EngineView}
use Rattle.sf_engine.specs.Promise.{Entry, linearization}
use Rattle.sf_engine.specs.contracts.promise.EngineSftp.TheImpl.{ghosts}
use Rattle.sf_c.specs.declared.leaves.LeafParts.{LeafParts}
use Rattle.sf_c.specs.Records.{attributes_parts}

-- The leaves of the engine's tree: each path once, in the order of paths, with its object after the
-- calls that were decided so far.
abbrev pub HasTree : EngineView → List Leaf → Type 0
HasTree engine leaves = (log : List Entry) → ghosts.has_log engine log
    → leaves ≡ leaves_of (replay (linearization log))

-- a snapshot of the engine's tree was taken, or memory ran out
abbrev pub TakesTree : EngineView → ℤ → Option (List Leaf) → Type 0
TakesTree engine n kept = ((n ≡ negsuc 0) × (kept ≡ None))
    ⊎ ((leaves : List Leaf) × (n ≡ pos 0) × (kept ≡ Some leaves) × HasTree engine leaves)

-- the numbers of a leaf, and the length of its path's text
abbrev pub leaf_parts : Leaf → LeafParts
leaf_parts leaf = record {
  attributes = attributes_parts (attrs_of leaf.1.1);
  label = leaf.1.0;
  path = length (text_of leaf.0);
}

-- The numbers of the leaf at an index are returned, and as much of its path's text as fits.
abbrev pub TellsPath : List Leaf → ℕ → List ℕ → LeafParts → List ℕ → Type 0
TellsPath leaves at old parts new = (leaf : Leaf) × (slice_get leaves at ≡ Some leaf)
    × (parts ≡ leaf_parts leaf)
    × (new ≡ take (length old) (text_of leaf.0) ++ drop (length (text_of leaf.0)) old)

-- returns the number of leaves, with the leaf at an index if there is one; or -1 if memory runs out
abbrev pub TellsLeaf : List Leaf → ℕ → LeafParts → List ℕ → ℤ → LeafParts → List ℕ → Type 0
TellsLeaf leaves at before old n parts new =
    ((n ≡ pos (length leaves)) × TellsPath leaves at old parts new)
    ⊎ (((n ≡ negsuc 0) ⊎ ((n ≡ pos (length leaves)) × (slice_get leaves at ≡ None)))
    × (parts ≡ before) × (new ≡ old))

-- the bytes of a file; none for a directory or a missing leaf
abbrev pub bytes_of_object : Option (List ℕ) → List ℕ
bytes_of_object (Some contents) = contents
bytes_of_object None = []

abbrev pub leaf_bytes : Option Leaf → List ℕ
leaf_bytes (Some leaf) = bytes_of_object (contents_of leaf.1.1)
leaf_bytes None = []

abbrev pub bytes_at : List Leaf → ℕ → List ℕ
bytes_at leaves at = leaf_bytes (slice_get leaves at)

-- the first n bytes of the room are these, and the others are unchanged
abbrev pub IsFilled : List ℕ → ℕ → List ℕ → List ℕ → Type 0
IsFilled bytes n old new = new ≡ take n bytes ++ drop n old

-- As many bytes from an offset as fit were copied, and their number returned; or memory ran out
-- after some of them.
abbrev pub ReadsBytes : List ℕ → List ℕ → ℤ → List ℕ → Type 0
ReadsBytes bytes old n new =
    ((count : ℕ) × (count ≡ min (length old) (length bytes)) × (n ≡ pos count)
    × IsFilled bytes count old new)
    ⊎ ((n ≡ negsuc 0) × ((count : ℕ) × IsFilled bytes count old new))

abbrev pub ReadsLeaf : List Leaf → ℕ → ℕ → List ℕ → ℤ → List ℕ → Type 0
ReadsLeaf leaves at offset old n new = ReadsBytes (drop offset (bytes_at leaves at)) old n new

-- this many bytes at the start are zeros
abbrev pub HasGap : List ℕ → ℤ → Type 0
HasGap bytes n = (count : ℕ) × (n ≡ pos count) × (take count bytes ≡ replicate count 0)

abbrev pub TellsGap : List Leaf → ℕ → ℕ → ℤ → Type 0
TellsGap leaves at offset n = HasGap (drop offset (bytes_at leaves at)) n
