-- No public clause cites this module.
-- A name's first 8 bytes as a big-endian integer.
use Rattle.std.specs.Prelude.{ℕ, zero, suc, ◌+◌, ◌*◌, List, [], ◌∷◌}

-- `n` followed by the first `more` bytes, in base 256; a shorter text is padded with zeros
abbrev pub spelled : ℕ → ℕ → List ℕ → ℕ
spelled zero n bytes = n
spelled (suc more) n [] = spelled more (n * 256) []
spelled (suc more) n (b ∷ bytes) = spelled more (n * 256 + b) bytes

-- the first 8 bytes as a big-endian integer, padded with zeros
abbrev pub head_of : List ℕ → ℕ
head_of bytes = spelled 8 0 bytes
