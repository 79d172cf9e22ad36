use Rattle.std.proofs.Common.{sym, subst, refl}
use Rattle.sf_call.specs.Attributes.{modified_at}
use Rattle.sf_inode.specs.Nodes.{with_metadata}
use Rattle.sf_walk.specs.Opening.{to_open}
use Rattle.sf_walk.specs.Served.{NodesStay}
use Rattle.sf_walk.proofs.Holders.{stays_edited}
use Rattle.sf_walk.proofs.Opened.{absent_served, stays_opened_new}
use Rattle.sf_walk.proofs.opening.open_absent.Goals as goal

pub returns-clause-served : goal.returns-clause-served
returns-clause-served c = λ t front k fresh is at.
    absent_served t c.args.session c.args.number c.args.moment c.args.path.now c.args.flags c.args.attrs.now
    c.args.store.now c.open_new.new.store c.touch.new.self front c.args.parent c.new_object-metadata.result k fresh c.ranges.number.fits is at c.requires.directory c.requires.missing
    c.if-not-flags.false (sym (c.if-has_all_handles.ensures t k)) c.new_object-metadata.ensures c.in_ok-open_new.ensures.ok c.touch.ensures

pub returns-clause-holders : goal.returns-clause-holders
returns-clause-holders c = λ before same.
    subst (NodesStay c.args.number before) (sym c.touch.ensures)
    (stays_edited (with_metadata (modified_at c.args.moment)) (λ node. (refl, refl, refl)) before c.open_new.new.store c.args.parent
    (stays_opened_new before c.args.store.now c.open_new.new.store (to_open c.args.session c.args.number c.args.parent _ _) _ same c.in_ok-open_new.ensures.ok (refl, refl)))
