-- Path resolution in a store: directory entries as steps from inode to inode.
use Rattle.std.specs.Prelude.{ℕ, nat_eq, ◌&&◌, if◌then◌else◌, [], ◌∷◌, Option, Some, option_and_then}
use Rattle.sf_path.specs.Names.{Name, Path}
use Rattle.sf_path.specs.Order.{same_name}

-- the inode of a name in a directory
abbrev pub EntryMap : Type 0
EntryMap = ℕ → Name → Option ℕ

-- the inode that a path resolves to from a start
abbrev pub walk : EntryMap → ℕ → Path → Option ℕ
walk step x [] = Some x
walk step x (n ∷ p) = option_and_then (λ y. walk step y p) (step x n)

-- with the entry n of d set to r
abbrev pub changed_step : EntryMap → ℕ → Name → Option ℕ → EntryMap
changed_step step d n r x m = if nat_eq d x && same_name n m then r else step x m
