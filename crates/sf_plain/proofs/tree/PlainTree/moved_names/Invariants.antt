use Rattle.std.proofs.Common.{◌≡◌, filter_map}
use Rattle.sf_call.specs.Moves.{with_entries, carried, moved}
use Rattle.sf_plain.proofs.tree.PlainTree.moved_names.Given as goal

abbrev pub invariant-names : goal.invariant-names
invariant-names l = with_entries l.names.entries (filter_map (carried l.old l.new) l.path-iterator.iter) ≡ moved l.self.names l.old l.new
