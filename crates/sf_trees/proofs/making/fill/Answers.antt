use Rattle.std.proofs.Common.{length}
use Rattle.std.proofs.lemmas.Result.{err_from_is_err_and}
use Rattle.sf_trees.proofs.Doing.{operation_laws, refused_first, both_done}
use Rattle.sf_trees.specs.Makings.{WritesContents}
use Rattle.sf_trees.proofs.making.fill.Goals as goal

pub returns-in_err-handle : goal.returns-in_err-handle
returns-in_err-handle g c =
    let p = err_from_is_err_and c.from_residual.result c.from_residual.ensures.1 in
    rw (p.1, p.2) (refused_first (operation_laws g.met.S.Server.none g.met.S.Server.on) (WritesContents c.args.session (length c.args.path.now) c.args.contents.now) _ c.in_err-handle.ensures)

pub returns : goal.returns
returns g c = both_done (operation_laws g.met.S.Server.none g.met.S.Server.on) (WritesContents c.args.session (length c.args.path.now) c.args.contents.now) c.in_ok-handle.handle _ c.in_ok-handle.ensures c.write_all.ensures
