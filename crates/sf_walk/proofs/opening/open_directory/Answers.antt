use Rattle.sf_walk.proofs.LookUps.{looked_none}
use Rattle.std.proofs.Common.{◌∙◌, sym, refl}
use Rattle.sf_call.specs.Calls.{open_directory}
use Rattle.sf_walk.proofs.Holders.{stays_looked}
use Rattle.sf_walk.proofs.PathCalls.{nowhere_served}
use Rattle.sf_walk.proofs.Looked.{keeps_counted, stays_after}
use Rattle.sf_walk.proofs.Opened.{listing_located, alike_err}
use Rattle.sf_walk.proofs.opening.open_directory.Goals as goal

pub returns-in-Err-clause-served : goal.returns-in-Err-clause-served
returns-in-Err-clause-served c = λ t p k fresh is.
    nowhere_served c.args.store.now c.args.store.now t p _ (looked_none c.args.store.now) k (open_directory t c.args.session c.args.number) refl c.args.located _ c.in-Err.ensures.nowhere is

pub returns-in-Err-clause-holders : goal.returns-in-Err-clause-holders
returns-in-Err-clause-holders c = stays_looked _ _ _ (looked_none c.args.store.now)

pub returns-in-Ok-clause-served : goal.returns-in-Ok-clause-served
returns-in-Ok-clause-served c = λ t p k fresh is.
    listing_located c.args.store.now c.args.store.now t p _ (looked_none c.args.store.now) k c.args.session c.args.number c.open_listing.new.store _ _ c.open_listing.result (sym c.in-Ok.ensures.at ∙ is)
    (λ it at. c.open_listing.ensures.served t it (keeps_counted _ _ t _ (looked_none c.args.store.now) k) fresh at)

pub returns-in-Ok-clause-err : goal.returns-in-Ok-clause-err
returns-in-Ok-clause-err c = alike_err _ _ _ _ c.open_listing.result (looked_none c.args.store.now) c.open_listing.ensures.err

pub returns-in-Ok-clause-holders : goal.returns-in-Ok-clause-holders
returns-in-Ok-clause-holders c = stays_after c.args.store.now c.args.store.now c.open_listing.new.store _ (looked_none c.args.store.now) c.open_listing.ensures.holders
