use Rattle.std.proofs.Common.{true, false}
use Rattle.std.proofs.lemmas.Result.{err_from_is_err_and}
use Rattle.sf_trees.proofs.Doing.{operation_laws, refused_first, both_done, done_already}
use Rattle.sf_trees.specs.Makings.{MakesUnless}
use Rattle.sf_trees.proofs.making.make_one.Goals as goal

pub returns-in_err-finds : goal.returns-in_err-finds
returns-in_err-finds g c =
    let p = err_from_is_err_and c.from_residual.result c.from_residual.ensures.1 in
    rw (p.1, p.2) (refused_first (operation_laws g.met.S.Server.none g.met.S.Server.on) (MakesUnless c.args.session c.args.path.now) _ c.in_err-finds.ensures)

pub returns-then-branch : goal.returns-then-branch
returns-then-branch g c =
    both_done (operation_laws g.met.S.Server.none g.met.S.Server.on) (MakesUnless c.args.session c.args.path.now) true _ (rw c.if-branch.true at c.in_ok-finds.ensures) (done_already (operation_laws g.met.S.Server.none g.met.S.Server.on) _)

pub returns : goal.returns
returns g c =
    both_done (operation_laws g.met.S.Server.none g.met.S.Server.on) (MakesUnless c.args.session c.args.path.now) false _ (rw c.if-branch.false at c.in_ok-finds.ensures) c.mkdir.ensures
