use Rattle.std.proofs.Common.{◌<◌, refl, sym, ap, ◌∙◌, subst}
use Rattle.atomic_table.specs.Seated.{TableId}
use Rattle.atomic_table.specs.Table.{keeps}
use Rattle.sf_roll.specs.Seen.{with_reader, without_reader}
use Rattle.sf_roll.proofs.Growing.{copies, takes, compared, writes_so}
use Rattle.sf_roll.proofs.log.Log.show.Goals as goal

pub split_seat-next-requires : goal.split_seat-next-requires
split_seat-next-requires g c =
    let i = c.self.invariant in (
      i.2 ∙ sym i.1,
      subst (λ (t : TableId). 0 < t.words) (sym i.1) i.0,
      λ s kept at. copies _ _ s.views kept at,
    )

pub join_seat-requires : goal.join_seat-requires
join_seat-requires g c =
    let i = c.self.invariant in
    let j = c.seen.invariant in
    let p = c.split_seat-next.ensures in
    let r = c.replace-before.ensures.value in (
      p.0 ∙ (i.2 ∙ sym i.1),
      ap (λ u. u.table_id) r ∙ (j.0 ∙ sym i.1),
      ap (λ u. u.me.1) r ∙ ap (λ m. m.1) j.1,
      subst (λ (t : TableId). 0 < t.words) (sym i.1) i.0,
      λ s kept at apart there. takes _ _ _ _ s.views kept at apart there,
    )

pub load-requires : goal.load-requires
load-requires g c =
    let i = c.self.invariant in
    let p = c.split_seat-next.ensures in
    let t = c.join_seat.ensures in (
      t.0 ∙ (p.0 ∙ (i.2 ∙ sym i.1)),
      subst (λ (t : TableId). 0 < t.words) (sym i.1) i.0,
      λ s kept _ at _.
          let v = c.join_seat.new.seat.me.0 in
          let k = compared _ v (ap (λ m. m.0.writes) t.2 ∙ (ap (λ m. m.0.writes) p.2 ∙ ap (λ m. m.0.writes) i.3)) s.views kept at in
          (without_reader v, keeps, tt, k.0, (refl, k.1)),
    )

pub invariant_of-self : goal.invariant_of-self
invariant_of-self g c =
    let i = c.self.invariant in
    let p = c.split_seat-next.ensures in
    let t = c.join_seat.ensures in
    let l = c.load.ensures in
    let theirs = c.replace-before.result.me.0 in
    (i.0, i.1, l.0 ∙ (t.0 ∙ (p.0 ∙ i.2)), writes_so _ _ _ (l.2.0 ∙ ap (λ m. (without_reader m.0, m.1)) (t.2 ∙ ap (λ m. (with_reader m.0 theirs, m.1)) (p.2 ∙ i.3))))
