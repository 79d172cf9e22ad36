use Rattle.std.proofs.Common.{sym, subst, inl}
use Rattle.sf_call.specs.declared.call.Stage.TheVariants as stage
use Rattle.sf_walk.specs.declared.finding.Ways.{Ways}
use Rattle.sf_walk.specs.Routes.{reached}
use Rattle.sf_call.specs.Routes.Route.{Along}
use Rattle.sf_walk.specs.Steps.{walker, DecidesNow}
use Rattle.sf_walk.specs.Steps.GoesFrom.{OnOne}
use Rattle.sf_walk.specs.Steps.MayDecideWhere.{AtEnd}
use Rattle.sf_walk.proofs.Advancing.{waits_there, decides_one, free_before}
use Rattle.sf_walk.proofs.walking.at_parent.Goals as goal

pub returns-in-Some : goal.returns-in-Some
returns-in-Some c =
    let at = c.args.at in
    waits_there c.args.store.now c.find_last-found.new.store c.find_last-found.ensures.looked c.args.number (Along c.args.path.now) (stage.At at.walked at.node) c.args.path.now (reached at.walked at.node)
    (OnOne c.args.path.now at.walked at.node) c.in-Some.holder c.find_last-found.result c.requires.last c.find_last-found.ensures.found c.in-Some.ensures.some

pub returns-in-None : goal.returns-in-None
returns-in-None c =
    let at = c.args.at in
    subst (λ (w : Ways). DecidesNow c.args.store.now c.find_last-found.new.store (walker c.args.number (Along c.args.path.now) (stage.At at.walked at.node)) w) (sym c.along.ensures)
    (decides_one c.args.store.now c.find_last-found.new.store c.find_last-found.ensures.looked c.args.number c.args.path.now (stage.At at.walked at.node)
    (AtEnd (Along c.args.path.now) (stage.At at.walked at.node) c.args.path.now (reached at.walked at.node) (OnOne c.args.path.now at.walked at.node) (inl c.requires.last))
    c.find_last-found.result c.find_last-found.ensures.found (free_before c.args.store.now c.find_last-found.new.store c.args.number c.find_last-found.result c.find_last-found.ensures.looked c.in-None.ensures.none))
