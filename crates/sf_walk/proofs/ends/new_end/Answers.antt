use Rattle.std.proofs.Common.{sym, subst, inr}
use Rattle.sf_call.specs.declared.call.Stage.TheVariants as stage
use Rattle.sf_walk.specs.declared.finding.Ways.{Ways}
use Rattle.sf_walk.specs.declared.walking.Walk.{Walk}
use Rattle.sf_call.specs.Routes.Route.{Between}
use Rattle.sf_walk.specs.Steps.{walker, Advances, DecidesNow}
use Rattle.sf_walk.specs.Steps.GoesFrom.{NewEnd}
use Rattle.sf_walk.proofs.Onward.{no_way_on}
use Rattle.sf_walk.proofs.Advancing.{decides_at_old_parent, waits_on_way, moves_new, ends, old_on_way, new_on_way, way_looked_up}
use Rattle.sf_walk.proofs.ends.new_end.Goals as goal

pub look-requires : goal.look-requires
look-requires c = new_on_way c.args.store.now c.args.path.now c.args.other.now c.args.ends.common c.args.ends.old c.args.ends.new c.requires.stands

pub find_last-path-requires-clause-on_way : goal.find_last-path-requires-clause-on_way
find_last-path-requires-clause-on_way c =
    way_looked_up c.args.store.now c.look.new.store c.args.path.now c.args.ends.old c.in-NoDirectory.ensures.0.0
    (old_on_way c.args.store.now c.args.path.now c.args.other.now c.args.ends.common c.args.ends.old c.args.ends.new c.requires.stands)

pub returns-in-NoDirectory : goal.returns-in-NoDirectory
returns-in-NoDirectory c =
    let e = c.args.ends in
    let path = c.args.path.now in
    let other = c.args.other.now in
    let found = c.in-NoDirectory.ensures in
    subst (λ (w : Ways). DecidesNow c.args.store.now c.find_last-path.new.store (walker c.args.number (Between path other) (stage.Ends e.common e.old e.new)) w) (sym c.between.ensures)
    (decides_at_old_parent c.args.number path other e.common e.old e.new c.args.store.now c.look.new.store found.0.0 c.requires.parent c.find_last-path.new.store c.find_last-path.ensures.looked c.find_last-path.result
    c.find_last-path.ensures.found _ (inr (found.0.1, found.1)) (no_way_on c.args.store.now other e.new.walked e.new.node (new_on_way c.args.store.now path other e.common e.old e.new c.requires.stands) found.0.1 found.1) tt)

pub returns-in-Held : goal.returns-in-Held
returns-in-Held c =
    let e = c.args.ends in
    let path = c.args.path.now in
    let other = c.args.other.now in
    let found = c.in-Held.ensures in
    waits_on_way c.args.store.now c.look.new.store found.0.0 c.args.number (Between path other) (stage.Ends e.common e.old e.new) other e.new (NewEnd path other e.common e.old e.new c.requires.parent) c.in-Held.holder found.1

pub returns-in-Free : goal.returns-in-Free
returns-in-Free c =
    let e = c.args.ends in
    let path = c.args.path.now in
    let other = c.args.other.now in
    let found = c.in-Free.ensures in
    subst (λ (w : Walk). Advances c.args.store.now c.move_on.new.store (walker c.args.number (Between path other) (stage.Ends e.common e.old e.new)) w) (sym c.move_on.ensures.walk)
    (moves_new c.args.store.now c.look.new.store found.0.0 c.args.number path other e.common e.old e.new (ends c.args.store.now path other e.common e.old e.new c.requires.stands) c.in-Free.new c.move_on.new.store c.requires.parent found.1
    c.move_on.ensures.state)
