use Rattle.std.proofs.Common.{◌+◌, ◌<◌, length, sym, ap, ◌∙◌, arith}
use Rattle.sf_inode.specs.Stores.{StoreState, holder_of, is_directory_at}
use Rattle.sf_walk.proofs.Onward.{held_next, free_next}
use Rattle.sf_walk.proofs.looking.look.Goals as goal

pub returns-in-Some-other_holder : goal.returns-in-Some-other_holder
returns-in-Some-other_holder c =
    let more : c.args.at.walked + 1 < length c.args.path.now = omega arith in (
      (c.find.ensures.counted, more),
      held_next c.args.store.now c.args.path.now c.args.at.walked c.args.at.node c.requires c.name.result.now c.name.ensures c.args.number c.in-Some.child c.in-Some-other_holder.holder (sym c.in-Some.ensures.found)
          (sym (ap (λ (x : StoreState). holder_of x.nodes c.in-Some.child) c.find.ensures.counted) ∙ c.in-Some-other_holder.ensures.some.0) c.in-Some-other_holder.ensures.some.1,
    )

pub returns-in-None : goal.returns-in-None
returns-in-None c =
    let more : c.args.at.walked + 1 < length c.args.path.now = omega arith in (
      (c.find.ensures.counted, more),
      free_next c.args.store.now c.args.path.now c.args.at.walked c.args.at.node c.requires c.name.result.now c.name.ensures c.args.number c.in-Some.child (sym c.in-Some.ensures.found) more
          (sym (ap (λ (x : StoreState). is_directory_at x.nodes c.in-Some.child) c.find.ensures.counted) ∙ sym c.if-not-is_directory.ensures)
          (λ h e. c.in-None.ensures.none h (ap (λ (x : StoreState). holder_of x.nodes c.in-Some.child) c.find.ensures.counted ∙ e)),
    )
