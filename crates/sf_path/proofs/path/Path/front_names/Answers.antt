use Rattle.std.proofs.lemmas.List.Elements.{All-take}
use Rattle.sf_path.specs.Names.{IsName}
use Rattle.sf_path.proofs.path.Path.front_names.Goals as goal

pub returns-clause-names : goal.returns-clause-names
returns-clause-names c = rw (c.loop-name.invariant) (All-take IsName _ _ (All-take IsName _ _ c.as_slice.ensures.names))
