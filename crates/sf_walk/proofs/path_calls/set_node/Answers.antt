use Rattle.std.proofs.Common.{refl, sym, ap, subst}
use Rattle.std.specs.Prelude.{is_some}
use Rattle.sf_call.specs.Attributes.{modified_at, with_parts}
use Rattle.sf_inode.specs.Nodes.{with_metadata}
use Rattle.sf_walk.specs.Served.{HoldersStay}
use Rattle.sf_walk.proofs.Holders.{stays_same, stays_edited, stays_stored}
use Rattle.sf_walk.proofs.SetNodes.{set_plain, set_sized, not_above}
use Rattle.sf_walk.proofs.path_calls.set_node.Goals as goal

pub returns-in-None-clause-served : goal.returns-in-None-clause-served
returns-in-None-clause-served c = λ t it h at.
    set_plain c.args.store.now c.set.new.self t c.args.node it h at (record { moment = c.args.moment; attrs = c.args.attrs.now; no_size = c.in-None.is; set = c.set.ensures })

pub returns-in-None-clause-holders : goal.returns-in-None-clause-holders
returns-in-None-clause-holders c =
    subst (HoldersStay c.args.store.now) (sym c.set.ensures)
    (stays_edited (with_metadata (λ m. with_parts m c.args.attrs.now)) (λ node. (refl, refl, refl)) c.args.store.now c.args.store.now c.args.node
    (stays_same c.args.store.now c.args.store.now refl))

pub returns-else-size-gt-MAX_FILE_SIZE-clause-served : goal.returns-else-size-gt-MAX_FILE_SIZE-clause-served
returns-else-size-gt-MAX_FILE_SIZE-clause-served c = λ t it h at.
    set_sized c.args.store.now c.set-in-Some.new.self t c.args.node it h at (sym c.if-is_directory.ensures) (record {
      moment = c.args.moment;
      size = c.in-Some.size;
      attrs = c.args.attrs.now;
      first = c.set_len.new.self;
      second = c.touch.new.self;
      some = c.in-Some.is;
      fits = not_above c.in-Some.size c.if-size-gt-MAX_FILE_SIZE.false;
      cut = c.set_len.ensures;
      marked = c.touch.ensures;
      set = c.set-in-Some.ensures;
    })

pub returns-else-size-gt-MAX_FILE_SIZE-clause-holders : goal.returns-else-size-gt-MAX_FILE_SIZE-clause-holders
returns-else-size-gt-MAX_FILE_SIZE-clause-holders c =
    let stays = HoldersStay c.args.store.now in
    subst stays (sym c.set-in-Some.ensures) (stays_edited (with_metadata (λ m. with_parts m c.args.attrs.now)) (λ node. (refl, refl, refl)) c.args.store.now c.touch.new.self c.args.node
    (subst stays (sym c.touch.ensures) (stays_edited (with_metadata (modified_at c.args.moment)) (λ node. (refl, refl, refl)) c.args.store.now c.set_len.new.self c.args.node
    (subst stays (sym c.set_len.ensures) (stays_stored c.args.store.now c.args.store.now c.args.node _ (c.requires (ap is_some c.in-Some.is)) (stays_same c.args.store.now c.args.store.now refl))))))
