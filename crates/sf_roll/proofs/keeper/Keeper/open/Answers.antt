use Rattle.std.proofs.Common.{◌<◌, sym, ap, ◌∙◌, subst}
use Rattle.atomic_table.specs.Seated.{TableId}
use Rattle.sf_roll.specs.Kept.{with_entry}
use Rattle.sf_roll.proofs.Moves.{opens, kept_so}
use Rattle.sf_roll.proofs.keeper.Keeper.open.Goals as goal

pub split_seat-seat-requires : goal.split_seat-seat-requires
split_seat-seat-requires g c =
    let i = c.self.invariant in (
      i.2 ∙ sym i.1,
      subst (λ (t : TableId). 0 < t.words) (sym i.1) i.0,
      λ s kept at. opens _ _ _ (ap (λ m. m.0.keeps) i.3) s.views kept at,
    )

pub invariant_of-self : goal.invariant_of-self
invariant_of-self g c =
    let i = c.self.invariant in
    let s = c.split_seat-seat.ensures in
    (i.0, i.1, s.0 ∙ i.2, kept_so _ _ _ _ (s.2 ∙ ap (λ m. (with_entry g.E.RollEntry.fresh m.0, m.1)) i.3))
