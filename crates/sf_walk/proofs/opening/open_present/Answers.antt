use Rattle.std.proofs.Common.{◌≡◌, false, refl, sym, ap, subst, ◌∙◌, ◌&&◌}
use Rattle.sf_inode.specs.Stores.{after_open}
use Rattle.sf_walk.specs.Opening.{marks_of}
use Rattle.sf_walk.specs.Served.{HoldersStay}
use Rattle.sf_walk.proofs.Holders.{stays_opened, stays_same}
use Rattle.sf_walk.proofs.Opened.{kind_there, present_served, present_cut}
use Rattle.sf_walk.proofs.opening.open_present.Goals.{then-flags+then-flags-2, else-flags, else-flags-via-then-flags+else-flags-2, else-flags-via-else-flags}
use Rattle.sf_walk.proofs.opening.open_present.Goals as goal

pub returns-clause-served : goal.returns-clause-served
returns-clause-served c = λ t it k fresh at.
    let file = kind_there c.args.store.now.nodes c.args.node it _ at c.if-is_directory.ensures in
    let some = sym (c.if-has_all_handles.ensures t k) in
    let opens : c.open.new.self ≡ after_open c.args.store.now c.args.session c.args.number c.args.node (marks_of c.args.flags) =
    c.in_ok-open.ensures.ok ∙ ap (after_open c.args.store.now c.args.session c.args.number c.args.node) c.file_marks.ensures in
    let uncut = λ (not_both : (c.args.flags.truncate && c.args.flags.write) ≡ false).
    present_served t c.args.session c.args.number c.args.moment c.args.flags c.args.store.now c.open.new.self it c.args.node k fresh c.ranges.number.fits at file some not_both opens in
    elim c.if-flags.branch [
      | then-flags+then-flags-2 w ↦ rw w.store-is
          (present_cut t c.args.session c.args.number c.args.moment c.args.flags c.args.store.now c.open.new.self w.truncate.new.store it c.args.node k fresh c.ranges.number.fits at file some
          (λ i. w.if-flags.true i && w.if-flags-2.true i) opens w.truncate.ensures.tree)
      | else-flags w ↦ elim w.else-flags.branch [
        | else-flags-via-then-flags+else-flags-2 v ↦ rw w.store-is (uncut (λ i. v.if-flags.true i && v.if-flags-2.false i))
        | else-flags-via-else-flags v ↦ rw w.store-is (uncut (ap (λ b. b && c.args.flags.write) v.if-flags.false))
      ]
    ]

pub returns-clause-holders : goal.returns-clause-holders
returns-clause-holders c =
    let stays : HoldersStay c.args.store.now c.open.new.self =
    subst (HoldersStay c.args.store.now) (sym c.in_ok-open.ensures.ok) (stays_opened c.args.store.now c.args.store.now c.args.session c.args.number c.args.node c.file_marks.result (stays_same c.args.store.now c.args.store.now refl)) in
    elim c.if-flags.branch [
      | then-flags+then-flags-2 w ↦ subst (HoldersStay c.args.store.now) (sym w.store-is) (w.truncate.ensures.holders c.args.store.now stays)
      | else-flags w ↦ subst (HoldersStay c.args.store.now) (sym w.store-is) stays
    ]
