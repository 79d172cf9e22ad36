use Rattle.std.proofs.lemmas.Result.{err_from_is_err_and}
use Rattle.sf_trees.specs.Makings.{LinksOn}
use Rattle.sf_trees.proofs.Doing.{operation_laws, no_session, by_session}
use Rattle.sf_trees.proofs.making.link.Goals as goal

pub returns-in_err-session : goal.returns-in_err-session
returns-in_err-session g c =
    let p = err_from_is_err_and c.from_residual.result c.from_residual.ensures.1 in
    let e = c.in_err-session.ensures.err in
    rw (p.1, p.2) (rw e.2 (no_session (operation_laws g.met.S.Server.none g.met.S.Server.on) (LinksOn c.args.old.now c.args.new.now) e.0 e.1))

pub returns : goal.returns
returns g c =
    by_session (operation_laws g.met.S.Server.none g.met.S.Server.on) c.in_ok-session.session (LinksOn c.args.old.now c.args.new.now) _
    c.in_ok-session.ensures.ok c.link_on-made.ensures c.finish.ensures
