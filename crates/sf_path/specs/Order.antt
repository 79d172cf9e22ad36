-- The order of names and of paths, and the parent of a path.
use Rattle.std.specs.Prelude.{◌-◌, length, take, Bool}
use Rattle.std.specs.Ordering.{nat_cmp, eq_by_cmp}
use Rattle.std.specs.declared.cmp.Ordering.{Ordering}
use Rattle.std.specs.Cmp.{IsTotalOrder, nat_cmp_total}
use Rattle.std.specs.Cmp.Lexicographic.{slice_cmp, lists_total}
use Rattle.sf_path.specs.Names.{Name, Path}

-- names are ordered by their bytes and paths by their names, lexicographically
abbrev pub name_cmp : Name → Name → Ordering
name_cmp = slice_cmp nat_cmp

abbrev pub path_cmp : Path → Path → Ordering
path_cmp = slice_cmp name_cmp

pub name_total : IsTotalOrder name_cmp
name_total = lists_total nat_cmp_total

pub path_total : IsTotalOrder path_cmp
path_total = lists_total name_total

abbrev pub same_name : Name → Name → Bool
same_name = eq_by_cmp name_cmp

abbrev pub same_path : Path → Path → Bool
same_path = eq_by_cmp path_cmp

-- the path without its last name; the parent of the root is the root
abbrev pub parent : Path → Path
parent path = take (length path - 1) path
