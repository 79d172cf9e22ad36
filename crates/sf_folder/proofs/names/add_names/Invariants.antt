use Rattle.sf_folder.specs.Names.{AddsNames}
use Rattle.sf_folder.proofs.names.add_names.Given as goal

abbrev pub invariant-loop : goal.invariant-loop
invariant-loop l = AddsNames l.initial.names.items l.names.items
