use Rattle.std.proofs.Common.{[], refl, sym, subst}
use Rattle.sf_call.specs.declared.call.Stage.TheVariants as stage
use Rattle.sf_walk.specs.declared.finding.Ways.{Ways}
use Rattle.sf_call.specs.Routes.Route.{Along}
use Rattle.sf_walk.specs.Steps.{walker, DecidesNow}
use Rattle.sf_walk.proofs.LastNames.{not_root}
use Rattle.sf_walk.proofs.Parting.{not_nothing}
use Rattle.sf_walk.proofs.Advancing.{decides_root, waits_root, moves_first}
use Rattle.sf_walk.proofs.walking.first.Goals as goal

pub returns-then-is_root : goal.returns-then-is_root
returns-then-is_root c =
    let s = c.args.store.now in
    subst (λ (w : Ways). DecidesNow s s (walker c.args.number (Along c.args.path.now) stage.Fresh) w) (sym c.along.ensures)
    (decides_root s c.args.number c.root-root.result c.root-root.ensures c.args.path.now (c.is_root.ensures.0 c.if-is_root.true))

pub returns-in-Some : goal.returns-in-Some
returns-in-Some c = waits_root c.args.store.now c.args.number c.root-root.result c.root-root.ensures (Along c.args.path.now) c.args.path.now [] refl c.in-Some.holder c.in-Some.ensures.some.0 c.in-Some.ensures.some.1

pub returns : goal.returns
returns c =
    let s = c.args.store.now in
    moves_first s c.args.number c.root-root.result c.root-root.ensures c.requires.root c.in_default.ensures.none c.hold.new.self c.args.path.now
    (not_nothing c.args.path.now (not_root c.is_root.result c.args.path.now c.is_root.ensures c.if-is_root.false)) c.hold.ensures
