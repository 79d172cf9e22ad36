-- The normal form of a text as a path, and the faults of a text.
use Rattle.std.specs.Prelude.{ℕ, List, [], ◌∷◌, ◌++◌, length, fold, codes, bytes_eq, ◌||◌, Option, Some, None, nat_lt, ◌==◌, if◌then◌else◌}
use Rattle.std.specs.List.{slice_split, list_any}
use Rattle.sf_path.specs.declared.fault.PathFault.{PathFault}
use Rattle.sf_path.specs.declared.fault.PathFault.TheVariants.{TooLong, NameTooLong, NulByte}
use Rattle.sf_path.specs.Names.{Path, slash}
use Rattle.sf_path.specs.Order.{parent}

-- the components of a text: it is split at slashes
abbrev pub parts : List ℕ → List (List ℕ)
parts text = slice_split (λ b. b == slash) text

-- the path after one more component: an empty one and `.` leave it unchanged, `..` yields the
-- parent, a name is appended
abbrev pub with_part : Path → List ℕ → Path
with_part path part =
    if bytes_eq part (codes "") || bytes_eq part (codes ".") then path
    else if bytes_eq part (codes "..") then parent path
    else path ++ part ∷ []

-- the path that a text denotes: its components applied to the root in order
abbrev pub norm : List ℕ → Path
norm text = fold with_part [] (parts text)

-- the lowest fault of a text: the text is too long; a component is too long, even if a later `..`
-- removes it; a byte is 0
abbrev pub fault_of : List ℕ → Option PathFault
fault_of text =
    if nat_lt 4096 (length text) then Some TooLong
    else if list_any (λ part. nat_lt 255 (length part)) (parts text) then Some NameTooLong
    else if list_any (λ b. b == 0) text then Some NulByte
    else None
