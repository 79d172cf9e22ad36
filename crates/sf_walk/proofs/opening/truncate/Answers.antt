use Rattle.std.proofs.Common.{refl, sym, subst, []}
use Rattle.sf_call.specs.Attributes.{modified_at}
use Rattle.sf_inode.specs.Nodes.{with_metadata}
use Rattle.sf_walk.specs.Served.{HoldersStay}
use Rattle.sf_walk.proofs.Holders.{stays_edited, stays_stored}
use Rattle.sf_walk.proofs.Opened.{cut_served}
use Rattle.sf_walk.proofs.opening.truncate.Goals as goal

pub returns-clause-tree : goal.returns-clause-tree
returns-clause-tree c = λ t label m bytes k at.
    cut_served c.args.store.now c.cut.new.store c.touch.new.self t (record { node = c.args.node; label = label; metadata = m; bytes = bytes; shows = at }) c.args.moment k c.cut.ensures c.touch.ensures

pub returns-clause-holders : goal.returns-clause-holders
returns-clause-holders c = λ before h.
    subst (HoldersStay before) (sym c.touch.ensures)
    (stays_edited (with_metadata (modified_at c.args.moment)) (λ node. (refl, refl, refl)) before c.cut.new.store c.args.node
    (subst (HoldersStay before) (sym c.cut.ensures) (stays_stored before c.args.store.now c.args.node [] c.requires h)))
