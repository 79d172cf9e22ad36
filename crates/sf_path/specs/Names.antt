-- Names, paths, and the text of a path.
use Rattle.std.specs.Prelude.{◌≡◌, ◌≢◌, ℕ, ◌<◌, ◌≤◌, List, [], ◌∷◌, ◌++◌, length, codes, All, Contains}
use Rattle.std.specs.List.{flat_map}

abbrev pub Name : Type 0
Name = List ℕ

-- the names from the root to a file or a directory; the root has none
abbrev pub Path : Type 0
Path = List Name

abbrev pub slash : ℕ
slash = 47

-- a component of a text: at most 255 bytes, without slash and byte 0
pub record IsPart (part : List ℕ) : Type 0 where
  pub short : length part ≤ 255
  pub bytes : All (λ b. b < 256) part
  pub no_slash : ¬ Contains part slash
  pub no_zero : ¬ Contains part 0

-- a name: a component of at least 1 byte, neither `.` nor `..`
pub record IsName (name : Name) : Type 0 where
  pub part : IsPart name
  pub not_empty : name ≢ []
  pub not_dot : name ≢ codes "."
  pub not_dot_dot : name ≢ codes ".."

abbrev pub IsPath : Path → Type 0
IsPath path = All IsName path

-- `front` is a prefix of the path
abbrev pub BeginsWith : Path → Path → Type 0
BeginsWith path front = (rest : Path) × (path ≡ front ++ rest)

-- a name with a slash before it
abbrev pub slashed : Name → List ℕ
slashed name = slash ∷ name

-- the text of a path: `/` for the root, else each name with a slash before it
abbrev pub text_of : Path → List ℕ
text_of [] = slash ∷ []
text_of (name ∷ names) = flat_map slashed (name ∷ names)
