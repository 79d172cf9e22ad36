use Rattle.std.proofs.Common.{sym, subst}
use Rattle.sf_call.specs.declared.call.Stage.{Stage}
use Rattle.sf_call.specs.declared.route.RoutePaths.{RoutePaths}
use Rattle.sf_walk.specs.declared.finding.Ways.{Ways}
use Rattle.sf_call.specs.Routes.{route_in}
use Rattle.sf_walk.specs.Routes.{HoldsWay}
use Rattle.sf_call.specs.Routes.Route.{Along, Between}
use Rattle.sf_walk.specs.Steps.{walker, DecidesNow}
use Rattle.sf_walk.proofs.Parting.{part_at_first}
use Rattle.sf_walk.proofs.Advancing.{at_once, stands_first, stands_on_one, stands_together}
use Rattle.sf_walk.proofs.walking.advance.Goals as goal

pub onward-requires : goal.onward-requires
onward-requires c =
    let s = c.args.store.now in
    let on = subst (λ (r : RoutePaths). HoldsWay s (route_in r) c.args.at) c.in-Along.is c.requires.stands in
    record { on_way = stands_on_one s c.in-Along.path.now c.in-At.walked c.in-At.node (subst (λ (g : Stage). HoldsWay s (Along c.in-Along.path.now) g) c.in-At.is on) }

pub first_of_two-requires-clause-apart : goal.first_of_two-requires-clause-apart
first_of_two-requires-clause-apart c =
    let s = c.args.store.now in
    let on = subst (λ (r : RoutePaths). HoldsWay s (route_in r) c.args.at) c.in-Between.is c.requires.stands in
    part_at_first c.in-Between.old.now c.in-Between.new.now (stands_first s c.in-Between.old.now c.in-Between.new.now (subst (λ (g : Stage). HoldsWay s (Between c.in-Between.old.now c.in-Between.new.now) g) c.in-Fresh-at.is on))

pub together-requires-clause-on_way : goal.together-requires-clause-on_way
together-requires-clause-on_way c =
    let s = c.args.store.now in
    let on = subst (λ (r : RoutePaths). HoldsWay s (route_in r) c.args.at) c.in-Between.is c.requires.stands in
    (stands_together s c.in-Between.old.now c.in-Between.new.now c.in-At-at.walked c.in-At-at.node (subst (λ (g : Stage). HoldsWay s (Between c.in-Between.old.now c.in-Between.new.now) g) c.in-At-at.is on)).0

pub returns-in-NoPath : goal.returns-in-NoPath
returns-in-NoPath c =
    let s = c.args.store.now in
    let on = subst (λ (r : RoutePaths). HoldsWay s (route_in r) c.args.at) c.in-NoPath.is c.requires.stands in
    subst (λ (w : Ways). DecidesNow s s (walker c.args.number (route_in c.args.route) c.args.at) w) (sym c.no_path.ensures)
    (subst (λ (r : RoutePaths). DecidesNow s s (walker c.args.number (route_in r) c.args.at) _) (sym c.in-NoPath.is) (at_once s c.args.number c.args.at on))
