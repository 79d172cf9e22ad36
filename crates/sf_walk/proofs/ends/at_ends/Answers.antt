use Rattle.std.proofs.Common.{sym, subst, inr}
use Rattle.sf_call.specs.declared.call.Stage.TheVariants as stage
use Rattle.sf_walk.specs.declared.finding.Ways.{Ways}
use Rattle.sf_walk.specs.declared.walking.Walk.{Walk}
use Rattle.sf_call.specs.Routes.Route.{Between}
use Rattle.sf_walk.specs.Steps.{walker, DecidesNow, Advances}
use Rattle.sf_walk.specs.Steps.GoesFrom.{OldEnd}
use Rattle.sf_walk.specs.Steps.MayDecideWhere.{AtEnd}
use Rattle.sf_walk.proofs.Onward.{no_way_on}
use Rattle.sf_walk.proofs.Advancing.{decides_nowhere, waits_on_way, moves_old, ends, old_on_way}
use Rattle.sf_walk.proofs.ends.at_ends.Goals as goal

pub look-requires : goal.look-requires
look-requires c = old_on_way c.args.store.now c.args.path.now c.args.other.now c.args.ends.common c.args.ends.old c.args.ends.new c.requires

pub returns-in-NoDirectory : goal.returns-in-NoDirectory
returns-in-NoDirectory c =
    let e = c.args.ends in
    let path = c.args.path.now in
    let other = c.args.other.now in
    let found = c.in-NoDirectory.ensures in
    subst (λ (w : Ways). DecidesNow c.args.store.now c.look.new.store (walker c.args.number (Between path other) (stage.Ends e.common e.old e.new)) w) (sym c.between.ensures)
    (decides_nowhere c.args.store.now c.look.new.store found.0.0 c.args.number path other (stage.Ends e.common e.old e.new)
    (AtEnd (Between path other) (stage.Ends e.common e.old e.new) path e.old (OldEnd path other e.common e.old e.new found.0.1) (inr (found.0.1, found.1)))
    (no_way_on c.args.store.now path e.old.walked e.old.node (old_on_way c.args.store.now path other e.common e.old e.new c.requires) found.0.1 found.1))

pub returns-in-Held : goal.returns-in-Held
returns-in-Held c =
    let e = c.args.ends in
    let path = c.args.path.now in
    let other = c.args.other.now in
    let found = c.in-Held.ensures in
    waits_on_way c.args.store.now c.look.new.store found.0.0 c.args.number (Between path other) (stage.Ends e.common e.old e.new) path e.old (OldEnd path other e.common e.old e.new found.0.1) c.in-Held.holder found.1

pub returns-in-Free : goal.returns-in-Free
returns-in-Free c =
    let e = c.args.ends in
    let path = c.args.path.now in
    let other = c.args.other.now in
    let found = c.in-Free.ensures in
    subst (λ (w : Walk). Advances c.args.store.now c.move_on.new.store (walker c.args.number (Between path other) (stage.Ends e.common e.old e.new)) w) (sym c.move_on.ensures.walk)
    (moves_old c.args.store.now c.look.new.store found.0.0 c.args.number path other e.common e.old e.new (ends c.args.store.now path other e.common e.old e.new c.requires) c.in-Free.old c.move_on.new.store found.0.1 found.1
    c.move_on.ensures.state)
