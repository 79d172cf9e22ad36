-- The paths, objects and handles that a change concerns. It leaves all others alone.
use Rattle.std.specs.Prelude.{◌≡◌, ◌⊎◌, ℕ, IsSome}
use Rattle.sf_path.specs.Names.{Path}
use Rattle.sf_call.specs.Tree.{after_front}
use Rattle.sf_call.specs.Changes.{Change}
use Rattle.sf_call.specs.Changes.Change.{SetObject, NewPath, NewName, GonePath, Move, OpenHandle, SetHandle, CloseHandle}

-- the path begins with one of two
abbrev pub BeginsWithEither : Path → Path → Path → Type 0
BeginsWithEither this that path = IsSome (after_front this path) ⊎ IsSome (after_front that path)

-- the paths that may change their inode number
abbrev pub IsOfPath : Change → Path → Type 0
IsOfPath (SetObject label object) path = ⊥
IsOfPath (NewPath new label object) path = path ≡ new
IsOfPath (NewName new label) path = path ≡ new
IsOfPath (GonePath gone) path = path ≡ gone
IsOfPath (Move old new) path = BeginsWithEither old new path
IsOfPath (OpenHandle number handle) path = ⊥
IsOfPath (SetHandle number handle) path = ⊥
IsOfPath (CloseHandle number) path = ⊥

-- the inode number whose object may change; besides, an object without link and open handle is
-- deleted
abbrev pub IsOfLabel : Change → ℕ → Type 0
IsOfLabel (SetObject set object) label = label ≡ set
IsOfLabel (NewPath path new object) label = label ≡ new
IsOfLabel (NewName path of) label = ⊥
IsOfLabel (GonePath path) label = ⊥
IsOfLabel (Move old new) label = ⊥
IsOfLabel (OpenHandle number handle) label = ⊥
IsOfLabel (SetHandle number handle) label = ⊥
IsOfLabel (CloseHandle number) label = ⊥

-- the number whose handle may change
abbrev pub IsOfNumber : Change → ℕ → Type 0
IsOfNumber (SetObject label object) number = ⊥
IsOfNumber (NewPath path label object) number = ⊥
IsOfNumber (NewName path label) number = ⊥
IsOfNumber (GonePath path) number = ⊥
IsOfNumber (Move old new) number = ⊥
IsOfNumber (OpenHandle opened handle) number = number ≡ opened
IsOfNumber (SetHandle set handle) number = number ≡ set
IsOfNumber (CloseHandle closed) number = number ≡ closed
