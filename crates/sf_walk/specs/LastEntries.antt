-- No public clause cites this module.
-- The last name of a path with an existing parent.
use Rattle.std.specs.Prelude.{◌≡◌, ℕ}
use Rattle.sf_walk.specs.declared.finding.Located.{Located}
use Rattle.sf_walk.specs.declared.finding.Located.TheVariants as located
use Rattle.sf_walk.specs.declared.finding.LastEntry.{LastEntry}
use Rattle.sf_walk.specs.declared.finding.LastEntry.TheVariants as last_entry

-- the directory lacks the name, or the name is an inode's
abbrev pub IsLastEntry : Located → LastEntry → Type 0
IsLastEntry l (last_entry.Missing parent) = l ≡ located.Missing parent
IsLastEntry l (last_entry.Taken node) = (parent : ℕ) × (l ≡ located.At parent node)
