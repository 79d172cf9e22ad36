-- Prefixes of paths.
use Rattle.std.specs.Prelude.{◌≡◌, ◌++◌}
use Rattle.sf_path.specs.Names.{Path}

-- q begins with p
pub record IsPrefix (p q : Path) : Type 0 where
  pub rest : Path
  pub is : q ≡ p ++ rest
