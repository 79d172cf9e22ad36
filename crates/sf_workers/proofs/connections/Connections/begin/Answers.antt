use Rattle.std.proofs.Common.{◌∷◌, ◌∙◌, subst}
use Rattle.std.specs.Prelude.{IsPermutation}
use Rattle.slab.specs.Slab.{values}
use Rattle.sf_workers.proofs.Slabs.{inserted}
use Rattle.sf_workers.proofs.connections.Connections.begin.Goals as goal

pub returns-in-Ok-open-clause-opened : goal.returns-in-Ok-open-clause-opened
returns-in-Ok-open-clause-opened g c =
    let v = c.in-Ok-open.session in
    let opened = c.in-Ok-open.ensures in
    let s = c.reserve.new.self.active in
    let s' = c.insert_reserved.new.self in
    let e = c.insert_reserved.ensures in (
      v,
      subst (λ l. IsPermutation (v ∷ l) (values s')) c.in-Ok.ensures.values (inserted s s' c.insert_reserved.result v e.was_vacant e.updates),
      opened.stream,
      opened.is_open,
      opened.keeps ∙ c.in-Ok.ensures.keeps,
    )
