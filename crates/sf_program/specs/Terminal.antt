-- Names on a terminal.
use Rattle.std.specs.Prelude.{◌≡◌, ℕ, ◌+◌, ◌/◌, ◌%◌, List, [], ◌∷◌, Bool, true, nat_lt, ◌==◌, ◌&&◌, ◌||◌, if◌then◌else◌}
use Rattle.std.specs.List.{flat_map}
use Rattle.std.specs.Str.{IsUtf8}

-- A byte as it is shown: printable ASCII as it is, but for the backslash; other ASCII in octal. A
-- byte that is not ASCII is kept or in octal.
abbrev pub terminal_byte : (keeps : Bool) → ℕ → List ℕ
terminal_byte keeps byte =
    if byte == 92 then 92 ∷ 92 ∷ []
    else if (nat_lt 31 byte && nat_lt byte 127) || (keeps && nat_lt 127 byte) then byte ∷ []
    else 92 ∷ (48 + byte / 64) ∷ (48 + byte / 8 % 8) ∷ (48 + byte % 8) ∷ []

-- bytes that are not ASCII are kept only if the name is UTF-8
abbrev pub IsTerminalText : (name text : List ℕ) → Type 0
IsTerminalText name text =
    (keeps : Bool) × (keeps ≡ true → IsUtf8 name) × (text ≡ flat_map (terminal_byte keeps) name)
