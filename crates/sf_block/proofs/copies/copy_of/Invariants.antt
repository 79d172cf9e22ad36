use Rattle.std.proofs.Common.{◌≡◌, ◌++◌}
use Rattle.sf_block.proofs.copies.copy_of.Given as goal

abbrev pub invariant-entries : goal.invariant-entries
invariant-entries g l = l.copy.entries ++ l.key-iterator ≡ l.map.entries
