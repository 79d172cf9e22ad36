use Rattle.std.proofs.Common.{◌<◌, List, refl, sym, ap, ◌∙◌, subst}
use Rattle.atomic_table.specs.Seated.{TableId}
use Rattle.atomic_table.specs.Table.{keeps}
use Rattle.sf_roll.specs.Seen.{grown}
use Rattle.sf_roll.proofs.Growing.{added_to, writes_so}
use Rattle.sf_roll.proofs.log.Log.grow_by.Goals as goal

pub load-requires : goal.load-requires
load-requires g c =
    let i = c.self.invariant in
    let added = c.requires.0 in
    let adds = subst (λ (l : List g.row.T.Denot). g.W.Adds.adds l added) (sym c.self.view_is) c.requires.1 in (
      i.2 ∙ sym i.1,
      subst (λ (t : TableId). 0 < t.words) (sym i.1) i.0,
      λ s kept _ at _.
          let v = c.self.inside.seat.me.0 in
          (grown v added, keeps, tt, added_to _ v added (ap (λ m. m.0.writes) i.3) s.views kept at, (added, refl, adds)),
    )

pub invariant_of-self : goal.invariant_of-self
invariant_of-self g c =
    let i = c.self.invariant in
    let l = c.load.ensures in
    (i.0, i.1, l.0 ∙ i.2, writes_so _ _ _ (l.2.1 ∙ ap (λ m. (grown m.0 l.2.0, m.1)) i.3))
