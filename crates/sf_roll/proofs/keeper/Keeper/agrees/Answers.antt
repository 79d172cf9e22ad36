use Rattle.std.proofs.Common.{◌<◌, refl, sym, ap, ◌∙◌, subst}
use Rattle.atomic_table.specs.Seated.{TableId}
use Rattle.atomic_table.specs.Table.{keeps}
use Rattle.sf_roll.proofs.Moves.{spares, takes, compared, gives, kept_with}
use Rattle.sf_roll.proofs.keeper.Keeper.agrees.Goals as goal

pub split_seat-spare-requires : goal.split_seat-spare-requires
split_seat-spare-requires g c =
    let i = c.self.invariant in (
      i.2 ∙ sym i.1,
      subst (λ (t : TableId). 0 < t.words) (sym i.1) i.0,
      λ s kept at. spares _ _ _ s.views kept at,
    )

pub join_seat-requires : goal.join_seat-requires
join_seat-requires g c =
    let i = c.self.invariant in
    let j = c.ticket.invariant in
    let p = c.split_seat-spare.ensures in
    let r = c.replace-theirs.ensures.value in (
      p.0 ∙ (i.2 ∙ sym i.1),
      ap (λ u. u.table_id) r ∙ (j.0 ∙ sym i.1),
      ap (λ u. u.me.1) r ∙ ap (λ m. m.1) j.1,
      subst (λ (t : TableId). 0 < t.words) (sym i.1) i.0,
      λ s kept at apart there. takes _ _ _ _ _ (ap (λ m. m.0.keeps) p.2 ∙ ap (λ m. m.0.keeps) i.3) (ap (λ u. u.me.0.holds) r ∙ ap (λ m. m.0.holds) j.1) s.views kept at apart there,
    )

pub load-requires : goal.load-requires
load-requires g c =
    let i = c.self.invariant in
    let j = c.ticket.invariant in
    let p = c.split_seat-spare.ensures in
    let r = c.replace-theirs.ensures.value in
    let t = c.join_seat.ensures in (
      t.0 ∙ (p.0 ∙ (i.2 ∙ sym i.1)),
      subst (λ (t : TableId). 0 < t.words) (sym i.1) i.0,
      λ s kept _ at _.
          let k = compared _ c.join_seat.new.seat.me.0 (ap (λ m. m.0.keeps) t.2 ∙ (ap (λ m. m.0.keeps) p.2 ∙ ap (λ m. m.0.keeps) i.3)) (ap (λ m. m.0.holds) t.2 ∙ (ap (λ u. u.me.0.holds) r ∙ ap (λ m. m.0.holds) j.1)) s.views kept at in
          (c.join_seat.new.seat.me.0, keeps, tt, k.0, (refl, k.1)),
    )

pub split_seat-requires : goal.split_seat-requires
split_seat-requires g c =
    let i = c.self.invariant in
    let j = c.ticket.invariant in
    let p = c.split_seat-spare.ensures in
    let r = c.replace-theirs.ensures.value in
    let t = c.join_seat.ensures in
    let l = c.load.ensures in (
      l.0 ∙ (t.0 ∙ (p.0 ∙ (i.2 ∙ sym i.1))),
      subst (λ (t : TableId). 0 < t.words) (sym i.1) i.0,
      λ s kept at. gives _ _ _ (ap (λ m. m.0.keeps) l.2.0 ∙ (ap (λ m. m.0.keeps) t.2 ∙ (ap (λ m. m.0.keeps) p.2 ∙ ap (λ m. m.0.keeps) i.3))) (ap (λ m. m.0.holds) l.2.0 ∙ (ap (λ m. m.0.holds) t.2 ∙ (ap (λ u. u.me.0.holds) r ∙ ap (λ m. m.0.holds) j.1))) s.views kept at,
    )

pub invariant_of-self : goal.invariant_of-self
invariant_of-self g c =
    let i = c.self.invariant in
    let j = c.ticket.invariant in
    let p = c.split_seat-spare.ensures in
    let r = c.replace-theirs.ensures.value in
    let t = c.join_seat.ensures in
    let l = c.load.ensures in
    let s = c.split_seat.ensures in
    (i.0, i.1, s.0 ∙ (l.0 ∙ (t.0 ∙ (p.0 ∙ i.2))), kept_with _ _ _ _ _ s.2 (ap (λ m. m.1) l.2.0 ∙ (ap (λ m. m.1) t.2 ∙ (ap (λ m. m.1) p.2 ∙ ap (λ m. m.1) i.3))))
