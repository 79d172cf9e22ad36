use Rattle.std.proofs.Common.{◌∙◌, refl}
use Rattle.std.specs.Cmp.Lexicographic.{lists_ties}
use Rattle.std.proofs.lemmas.Slice.Eq.{slice_eq-Decides}
use Rattle.sf_path.specs.Order.{name_cmp}
use Rattle.sf_path.proofs.OrderLaws.{same_name-Decides}
use Rattle.sf_path.proofs.path.PathPartialEq.eq.Goals as goal

pub returns-clause-value : goal.returns-clause-value
returns-clause-value c = rw (← c.as_slice.ensures.same, ← c.as_slice-2.ensures.same) (c.eq.ensures ∙ lists_ties name_cmp (λ x y. refl) c.as_slice.result.now c.as_slice-2.result.now)

pub returns-clause-same : goal.returns-clause-same
returns-clause-same c = rw (← c.as_slice.ensures.same, ← c.as_slice-2.ensures.same) (slice_eq-Decides same_name-Decides _ _ _ c.eq.ensures)
