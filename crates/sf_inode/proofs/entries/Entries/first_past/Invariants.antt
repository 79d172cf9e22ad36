use Rattle.std.proofs.Common.{◌≡◌, ◌++◌, take}
use Rattle.std.specs.Option.{option_copied}
use Rattle.sf_inode.specs.Nodes.{entries_past}
use Rattle.sf_inode.proofs.entries.Entries.first_past.Given as goal

abbrev pub invariant-loop-name : goal.invariant-loop-name
invariant-loop-name l = l.found.items ++ take l.name-iterator.n l.name-iterator.iter ≡ take l.most (entries_past (option_copied l.last) l.self)
