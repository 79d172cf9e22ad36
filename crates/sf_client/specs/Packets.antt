-- No public clause cites this module.
-- The first packet of a transport's input.
use Rattle.std.specs.Prelude.{◌≡◌, ◌<◌, ℕ, List, ◌++◌, length, Option, IfSome}
use Rattle.sf_field.specs.Fields.{packet}
use Rattle.sf_wire.specs.Packets.{IsBody}

-- the input has less than `n` bytes
abbrev pub RunsOut : Option (List ℕ) → ℕ → Type 0
RunsOut incoming n = IfSome incoming (λ input. length input < n)

-- the input doesn't begin with a packet
abbrev pub HasNoPacket : Option (List ℕ) → Type 0
HasNoPacket incoming =
    IfSome incoming (λ input. (body rest : List ℕ) → IsBody body → input ≡ packet body ++ rest → ⊥)
