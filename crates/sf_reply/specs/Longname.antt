-- The line that describes a file in a listing.
use Rattle.std.specs.Prelude.{◌≡◌, ℕ, ◌-◌, ◌/◌, ◌⊎◌, List, [], ◌∷◌, ◌++◌, length, replicate, Option, Some, None, ◌==◌, if◌then◌else◌}
use Rattle.std.specs.Fmt.{decimal}
use Rattle.sf_field.specs.declared.attrs.Attrs.{Attrs}
use Rattle.sf_field.specs.declared.attrs.Owner.{Owner}
use Rattle.sf_field.specs.Attributes.{lacks}
use Rattle.sf_field.specs.Reading.{◌>>=◌}

abbrev pub spaces : ℕ → List ℕ
spaces n = replicate n 32

-- padded to the width of a column; a longer text is not truncated
abbrev pub left_justified : ℕ → List ℕ → List ℕ
left_justified width text = text ++ spaces (width - length text)

abbrev pub right_in : ℕ → List ℕ → List ℕ
right_in width text = spaces (width - length text) ++ text

-- the type, above the 12 permission bits: 8 is a regular file, 4 a directory
abbrev pub type_of : ℕ → ℕ
type_of permissions = permissions / 4096

abbrev pub HasType : Option ℕ → Type 0
HasType None = ⊥
HasType (Some permissions) = (type_of permissions ≡ 8) ⊎ (type_of permissions ≡ 4)

-- the letter, or `-` if the bit is clear
abbrev pub place : ℕ → ℕ → ℕ → ℕ
place permissions bit letter = if lacks permissions bit then 45 else letter

-- `d` or `-`, and `rwxrwxrwx`
abbrev pub mode_text : ℕ → List ℕ
mode_text p =
    (if type_of p == 4 then 100 else 45)
    ∷ place p 256 114 ∷ place p 128 119 ∷ place p 64 120
    ∷ place p 32 114 ∷ place p 16 119 ∷ place p 8 120
    ∷ place p 4 114 ∷ place p 2 119 ∷ place p 1 120 ∷ []

-- the numbers, with single spaces between them and at both ends
abbrev pub columns_text : ℕ → Owner → ℕ → ℕ → List ℕ
columns_text links owner size mtime =
    spaces 1 ++ right_in 3 (decimal links) ++ spaces 1 ++ left_justified 8 (decimal owner.uid)
    ++ spaces 1 ++ left_justified 8 (decimal owner.gid)
    ++ spaces 1 ++ right_in 8 (decimal size) ++ spaces 1 ++ right_in 12 (decimal mtime) ++ spaces 1

-- Incomplete attributes have no line.
abbrev pub longname_text : Attrs → ℕ → List ℕ → Option (List ℕ)
longname_text attrs links name = do
  size ← attrs.size
  owner ← attrs.owner
  permissions ← attrs.permissions
  times ← attrs.times
  Some (mode_text permissions ++ columns_text links owner size times.mtime ++ name)
