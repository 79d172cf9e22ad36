-- Hexadecimal encoding.
use Rattle.std.specs.Prelude.{◌≡◌, ◌==◌, ℕ, List, Ok, filter, not}
use Rattle.hex.specs.Hex.{decode_of}

-- the text is the hexadecimal encoding of the bytes; spaces are ignored
abbrev pub Spells : List ℕ → List ℕ → Type 0
Spells text bytes = decode_of (filter (λ b. not (b == 32)) text) ≡ Ok bytes
