use Rattle.std.proofs.Common.{length, refl, sym, subst}
use Rattle.sf_call.specs.declared.route.RoutePaths.{RoutePaths}
use Rattle.sf_walk.specs.declared.finding.Ways.{Ways}
use Rattle.sf_call.specs.Routes.{route_in}
use Rattle.sf_call.specs.Routes.Route.{Between}
use Rattle.sf_walk.specs.Ways.{AreWays, names_on}
use Rattle.sf_walk.specs.Served.{LookedUp}
use Rattle.sf_walk.proofs.LookUps.{looked_on}
use Rattle.sf_walk.proofs.Rooted.{way_before}
use Rattle.sf_walk.proofs.finding.locate_all.Goals as goal

pub returns-in-Between-clause-located : goal.returns-in-Between-clause-located
returns-in-Between-clause-located c =
    subst (λ (r : RoutePaths). AreWays c.args.store.now (route_in r) c.between.result) (sym c.in-Between.is)
    (subst (λ (w : Ways). AreWays c.args.store.now (Between c.in-Between.old.now c.in-Between.new.now) w) (sym c.between.ensures)
    (refl, (c.locate-path.ensures.found, λ _. way_before c.args.store.now c.locate-path.new.store (length c.in-Between.old.now) c.in-Between.new.now c.locate-new.result c.locate-path.ensures.looked c.locate-new.ensures.found)))

pub returns-in-Between-clause-looked : goal.returns-in-Between-clause-looked
returns-in-Between-clause-looked c =
    subst (λ (r : RoutePaths). LookedUp c.args.store.now c.locate-new.new.store (names_on (route_in r))) (sym c.in-Between.is)
    (looked_on c.args.store.now c.locate-path.new.store c.locate-new.new.store (length c.in-Between.old.now) (length c.in-Between.new.now) c.locate-path.ensures.looked c.locate-new.ensures.looked)
