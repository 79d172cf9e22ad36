-- The framing of a stream, packet by packet.
use Rattle.std.specs.Prelude.{◌≡◌, ℕ, ◌<◌, ◌≤◌, List, [], ◌∷◌, ◌++◌, length, take, drop}
use Rattle.std.specs.List.{AllByRecursion, flat_map}
use Rattle.sf_wire.specs.declared.cutting.Cut.{Cut}
use Rattle.sf_wire.specs.declared.cutting.Cut.TheVariants as cut
use Rattle.sf_field.specs.Fields.{packet}
use Rattle.sf_wire.specs.Packets.{IsBody, IsCut, End, More, Bad, EndsStream, Cuts}

abbrev pub IfWhole : Cut → (ℕ → Type 0) → Type 0
IfWhole (cut.Whole len) P = P len
IfWhole cut.More P = Unit {0}
IfWhole (cut.Bad cause) P = Unit {0}

-- The bytes begin with a packet of `len` bytes, including its 4-byte length field.
pub record HasBody (bytes : List ℕ) (len : ℕ) : Type 0 where
  pub long : 4 < len
  pub within : len ≤ length bytes
  pub is_body : IsBody (drop 4 (take len bytes))
  pub parts : bytes ≡ packet (drop 4 (take len bytes)) ++ drop len bytes

-- The framing of bytes, given their first packet: either its body and the framing of what follows,
-- or only an end.
abbrev pub CutsAfter : List ℕ → Cut → List (List ℕ) → End → Type 0
CutsAfter bytes (cut.Whole len) bodies end = (body : List ℕ) × (others : List (List ℕ))
    × (bodies ≡ body ∷ others) × IsBody body × (bytes ≡ packet body ++ drop len bytes)
    × (len ≡ length (packet body)) × Cuts (drop len bytes) others end
CutsAfter bytes cut.More bodies end = (bodies ≡ []) × (end ≡ More bytes)
CutsAfter bytes (cut.Bad cause) bodies end = (bodies ≡ []) × (end ≡ Bad cause)

-- The stream is the packets of the bodies in order, followed by the bytes of the end.
pub record IsSpelled (bytes : List ℕ) (bodies : List (List ℕ)) (end : End) : Type 0 where
  pub rest : List ℕ
  pub parts : bytes ≡ flat_map packet bodies ++ rest
  pub are_bodies : AllByRecursion IsBody bodies
  pub ends : EndsStream rest end

-- Appended bytes don't change the first packet if it is whole, or if its length is wrong.
abbrev pub Stays : List ℕ → Cut → Type 0
Stays bytes (cut.Whole len) = (more : List ℕ) → IsCut (bytes ++ more) (cut.Whole len)
Stays bytes cut.More = Unit {0}
Stays bytes (cut.Bad cause) = (more : List ℕ) → IsCut (bytes ++ more) (cut.Bad cause)

-- The framing of appended bytes: after a wrong length there are no more packets; an incomplete
-- packet is framed again, with the new bytes.
abbrev pub GrowsTo : End → List ℕ → List (List ℕ) → End → Type 0
GrowsTo (More rest) more bodies end = Cuts (rest ++ more) bodies end
GrowsTo (Bad cause) more bodies end = (bodies ≡ []) × (end ≡ Bad cause)
