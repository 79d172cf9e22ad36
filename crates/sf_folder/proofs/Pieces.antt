-- The next piece of a file.
use Rattle.std.proofs.Common.{◌≡◌, ◌<◌, ◌≤◌, ◌+◌, ℕ, List, length, Option, Some, None, IfSome}
use Rattle.sf_folder.specs.Contents.{AreZeros, AreBytesAt}
use Rattle.sf_folder.specs.Pieces.{IsPieceAfter}

pub piece_after : (known : Option (List ℕ)) (from offset : ℕ) (piece : List ℕ) (next : ℕ) → from ≤ offset → IfSome known (λ bytes. AreZeros bytes from offset) → IfSome known (λ bytes. AreBytesAt bytes offset piece) → 0 < length piece
    → next ≡ offset + length piece → IfSome known (λ bytes. IsPieceAfter bytes from offset piece next)
piece_after None from offset piece next after zeros part some is = tt
piece_after (Some bytes) from offset piece next after zeros part some is = record { after = after; zeros = zeros; part = part; some = some; next_is = is }
