use Rattle.sf_folder.specs.Names.{GivesNames, texts}
use Rattle.sf_folder.proofs.names.all_names.Given as goal

-- the directory listed the names so far
abbrev pub invariant-loop : goal.invariant-loop
invariant-loop g l = GivesNames (g.D.Descriptor.listing l.initial.directory) (texts l.names.items) (g.D.Descriptor.listing l.directory)
