use Rattle.std.proofs.Common.{◌≡◌, ◌++◌, drop, filter_map}
use Rattle.sf_keeps.specs.Listed.{node_entry}
use Rattle.sf_walk.proofs.listing.entries_of.Given as goal

abbrev pub invariant-entries : goal.invariant-entries
invariant-entries l = l.entries.items ++ filter_map (node_entry l.store.nodes) (drop l.name-index l.found) ≡ filter_map (node_entry l.store.nodes) l.found
