use Rattle.std.proofs.Common.{◌<◌, sym, ◌∙◌, subst}
use Rattle.atomic_table.specs.Seated.{TableId}
use Rattle.sf_roll.proofs.Growing.{copies}
use Rattle.sf_roll.proofs.log.Log.token.Goals as goal

pub split_seat-seat-requires : goal.split_seat-seat-requires
split_seat-seat-requires g c =
    let i = c.self.invariant in (
      i.2 ∙ sym i.1,
      subst (λ (t : TableId). 0 < t.words) (sym i.1) i.0,
      λ s kept at. copies _ _ s.views kept at,
    )
