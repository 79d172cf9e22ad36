use Rattle.std.proofs.Common.{◌≡◌, take}
use Rattle.std.specs.List.{flat_map}
use Rattle.sf_c.specs.Records.{name_parts}
use Rattle.sf_c.proofs.record_parts.names_parts.Given as goal

abbrev pub invariant-loop-entry : goal.invariant-loop-entry
invariant-loop-entry l = l.bytes.items ≡ flat_map name_parts (take l.entry-index l.entries)
