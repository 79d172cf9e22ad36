-- The effect of a rename on the names.
use Rattle.std.specs.Prelude.{ℕ, Bool, ◌&&◌, List, [], ◌∷◌, ◌++◌, filter, filter_map, Option, option_map, is_none}
use Rattle.std.specs.BTreeMap.{insert_entry}
use Rattle.sf_path.specs.Order.{path_cmp}
use Rattle.sf_path.specs.Names.{Path}
use Rattle.sf_call.specs.Tree.{after_front}

-- whether a path begins with neither `old` nor `new`
abbrev pub is_outside : Path → Path → Path → Bool
is_outside old new path = is_none (after_front old path) && is_none (after_front new path)

-- an entry at old ++ rest, moved to new ++ rest
abbrev pub carried : Path → Path → Path × ℕ → Option (Path × ℕ)
carried old new e = option_map (λ rest. (new ++ rest, e.1)) (after_front old e.0)

-- names with these entries inserted
abbrev pub with_entries : List (Path × ℕ) → List (Path × ℕ) → List (Path × ℕ)
with_entries names [] = names
with_entries names (e ∷ es) = insert_entry path_cmp (with_entries names es) e.0 e.1

-- The names after a rename: entries at or below `new` are removed, an entry at old ++ rest is at
-- new ++ rest, and all others are unchanged (POSIX, rename).
abbrev pub moved : List (Path × ℕ) → Path → Path → List (Path × ℕ)
moved names old new =
    with_entries (filter (λ e. is_outside old new e.0) names) (filter_map (carried old new) names)
