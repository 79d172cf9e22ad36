-- No public clause cites this module.
-- The pieces that are read of a file.
use Rattle.std.specs.Prelude.{◌≡◌, ◌<◌, ◌≤◌, ◌+◌, ℕ, List, length}
use Rattle.sf_folder.specs.Contents.{AreBytesAt, AreZeros}

-- These are the file's bytes at an offset, and only zeros were skipped. The next ones follow them.
pub record IsPieceAfter (bytes : List ℕ) (from offset : ℕ) (piece : List ℕ) (next : ℕ) : Type 0 where
  pub after : from ≤ offset
  pub zeros : AreZeros bytes from offset
  pub part : AreBytesAt bytes offset piece
  pub some : 0 < length piece
  pub next_is : next ≡ offset + length piece
