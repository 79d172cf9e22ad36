use Rattle.std.proofs.Common.{refl, sym, subst}
use Rattle.sf_walk.specs.Served.{HoldersStay}
use Rattle.sf_walk.proofs.Holders.{stays_same, stays_opened}
use Rattle.sf_walk.proofs.Opened.{kind_there, listing_served}
use Rattle.sf_walk.proofs.opening.open_listing.Goals as goal

pub returns-clause-served : goal.returns-clause-served
returns-clause-served c = λ t it k fresh at.
    listing_served t c.args.session c.args.number c.args.store.now c.open.new.self it c.args.node k fresh c.ranges.number.fits at
    (kind_there c.args.store.now.nodes c.args.node it _ at c.if-not-is_directory.ensures) (sym (c.if-has_all_handles.ensures t k)) c.in_ok-open.ensures.ok

pub returns-clause-holders : goal.returns-clause-holders
returns-clause-holders c =
    subst (HoldersStay c.args.store.now) (sym c.in_ok-open.ensures.ok)
    (stays_opened c.args.store.now c.args.store.now c.args.session c.args.number c.args.node _ (stays_same c.args.store.now c.args.store.now refl))
