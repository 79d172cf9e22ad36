use Rattle.std.proofs.lemmas.Result.{err_from_is_err_and}
use Rattle.sf_trees.proofs.Doing.{operation_laws, refused_first, both_done}
use Rattle.sf_trees.specs.Makings.{LinksAlone}
use Rattle.sf_trees.proofs.making.link_on.Goals as goal

pub returns-in_err-make_way : goal.returns-in_err-make_way
returns-in_err-make_way g c =
    let p = err_from_is_err_and c.from_residual.result c.from_residual.ensures.1 in
    rw (p.1, p.2) (refused_first (operation_laws g.met.S.Server.none g.met.S.Server.on) (λ done. LinksAlone c.args.session c.args.old.now c.args.new.now) _ c.in_err-make_way.ensures)

pub returns : goal.returns
returns g c = both_done (operation_laws g.met.S.Server.none g.met.S.Server.on) (λ done. LinksAlone c.args.session c.args.old.now c.args.new.now) tt _ c.in_ok-make_way.ensures c.link_alone.ensures
