use Rattle.std.proofs.Common.{◌∙◌}
use Rattle.std.specs.Cmp.Lexicographic.{texts_ties}
use Rattle.sf_path.proofs.name.NamePartialEq.eq.Goals as goal

pub returns-clause-value : goal.returns-clause-value
returns-clause-value c = rw (← c.self.view_is, ← c.other.view_is) (c.eq.ensures ∙ texts_ties c.self.inside.bytes.items c.other.inside.bytes.items)
