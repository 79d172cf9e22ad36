use Rattle.std.proofs.Common.{refl}
use Rattle.sf_call.specs.Routes.Route.{Between}
use Rattle.sf_walk.proofs.Advancing.{waits_root, moves_first_of_two}
use Rattle.sf_walk.proofs.walking.first_of_two.Goals as goal

pub returns-in-Some : goal.returns-in-Some
returns-in-Some c =
    waits_root c.args.store.now c.args.number c.root-root.result c.root-root.ensures (Between c.args.old.now c.args.new.now) c.args.old.now _ refl c.in-Some.holder c.in-Some.ensures.some.0 c.in-Some.ensures.some.1

pub returns : goal.returns
returns c =
    let s = c.args.store.now in
    moves_first_of_two s c.args.number c.root-root.result c.root-root.ensures c.requires.root c.in_default.ensures.none c.hold.new.self c.args.old.now c.args.new.now c.arrived.result c.arrived.ensures
    c.hold.ensures
