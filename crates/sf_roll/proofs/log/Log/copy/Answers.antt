use Rattle.std.proofs.Common.{◌<◌, sym, ◌∙◌, subst}
use Rattle.atomic_table.specs.Seated.{TableId}
use Rattle.sf_roll.proofs.Growing.{copies}
use Rattle.sf_roll.proofs.log.Log.copy.Goals as goal

pub split_seat-seat-requires : goal.split_seat-seat-requires
split_seat-seat-requires g c =
    let i = c.self.invariant in
    let j = c.seen.invariant in (
      j.0 ∙ sym i.1,
      subst (λ (t : TableId). 0 < t.words) (sym i.1) i.0,
      λ s kept at. copies _ _ s.views kept at,
    )
