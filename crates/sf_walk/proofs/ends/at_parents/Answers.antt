use Rattle.std.proofs.Common.{sym, subst, inl}
use Rattle.sf_call.specs.declared.call.Stage.TheVariants as stage
use Rattle.sf_walk.specs.declared.finding.Ways.{Ways}
use Rattle.sf_call.specs.Routes.Route.{Between}
use Rattle.sf_walk.specs.Steps.{walker, DecidesNow}
use Rattle.sf_walk.specs.Steps.GoesFrom.{NewEnd}
use Rattle.sf_walk.proofs.Advancing.{decides_at_old_parent, waits_there, old_on_way, new_on_way, way_looked_up, free_before}
use Rattle.sf_walk.proofs.ends.at_parents.Goals as goal

pub find_last-new-requires-clause-on_way : goal.find_last-new-requires-clause-on_way
find_last-new-requires-clause-on_way c = new_on_way c.args.store.now c.args.path.now c.args.other.now c.args.ends.common c.args.ends.old c.args.ends.new c.requires.stands

pub returns-in-Some : goal.returns-in-Some
returns-in-Some c =
    let e = c.args.ends in
    let path = c.args.path.now in
    let other = c.args.other.now in
    waits_there c.args.store.now c.find_last-new.new.store c.find_last-new.ensures.looked c.args.number (Between path other) (stage.Ends e.common e.old e.new) other e.new (NewEnd path other e.common e.old e.new c.requires.parent)
    c.in-Some.holder c.find_last-new.result c.requires.parent_new c.find_last-new.ensures.found c.in-Some.ensures.some

pub find_last-path-requires-clause-on_way : goal.find_last-path-requires-clause-on_way
find_last-path-requires-clause-on_way c =
    way_looked_up c.args.store.now c.find_last-new.new.store c.args.path.now c.args.ends.old c.find_last-new.ensures.looked
    (old_on_way c.args.store.now c.args.path.now c.args.other.now c.args.ends.common c.args.ends.old c.args.ends.new c.requires.stands)

pub returns : goal.returns
returns c =
    let e = c.args.ends in
    let path = c.args.path.now in
    let other = c.args.other.now in
    subst (λ (w : Ways). DecidesNow c.args.store.now c.find_last-path.new.store (walker c.args.number (Between path other) (stage.Ends e.common e.old e.new)) w) (sym c.between.ensures)
    (decides_at_old_parent c.args.number path other e.common e.old e.new c.args.store.now c.find_last-new.new.store c.find_last-new.ensures.looked c.requires.parent c.find_last-path.new.store c.find_last-path.ensures.looked
    c.find_last-path.result c.find_last-path.ensures.found c.find_last-new.result (inl c.requires.parent_new) c.find_last-new.ensures.found
    (free_before c.args.store.now c.find_last-new.new.store c.args.number c.find_last-new.result c.find_last-new.ensures.looked c.in_default.ensures.none))
