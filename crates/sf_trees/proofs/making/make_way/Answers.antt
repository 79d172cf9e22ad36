use Rattle.std.proofs.Common.{arith}
use Rattle.std.proofs.lemmas.Result.{err_from_is_err_and}
use Rattle.sf_trees.proofs.Doing.{operation_laws, none_yet, done_further, refused_at_one}
use Rattle.sf_trees.proofs.Ways.{way}
use Rattle.sf_trees.proofs.making.make_way.Goals as goal

pub loop-at-init : goal.loop-at-init
loop-at-init g c = none_yet (operation_laws g.met.S.Server.none g.met.S.Server.on) (way c.args.session c.args.whole c.args.path.now) _

pub loop-at-preserved : goal.loop-at-preserved
loop-at-preserved g c =
    done_further (operation_laws g.met.S.Server.none g.met.S.Server.on) (way c.args.session c.args.whole c.args.path.now) c.loop-at.at c.loop-at.invariant c.in_ok-make_if.ensures

pub returns-in_err-make_if : goal.returns-in_err-make_if
returns-in_err-make_if g c =
    let p = err_from_is_err_and c.from_residual.result c.from_residual.ensures.1 in
    rw (p.1, p.2) (refused_at_one (operation_laws g.met.S.Server.none g.met.S.Server.on) (way c.args.session c.args.whole c.args.path.now) c.loop-at.at _ _ (omega arith) c.loop-at.invariant c.in_err-make_if.ensures)
