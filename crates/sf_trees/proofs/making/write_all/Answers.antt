use Rattle.std.proofs.lemmas.Result.{err_from_is_err_and}
use Rattle.sf_trees.proofs.Doing.{operation_laws, refused_first, both_done}
use Rattle.sf_trees.specs.Makings.{ClosesHandle}
use Rattle.sf_trees.proofs.making.write_all.Goals as goal

pub returns-in_err-write_pieces : goal.returns-in_err-write_pieces
returns-in_err-write_pieces g c =
    let p = err_from_is_err_and c.from_residual.result c.from_residual.ensures.1 in
    rw (p.1, p.2) (refused_first (operation_laws g.met.S.Server.none g.met.S.Server.on) (λ done. ClosesHandle c.args.session c.args.handle c.args.named) _ c.in_err-write_pieces.ensures)

pub returns : goal.returns
returns g c = both_done (operation_laws g.met.S.Server.none g.met.S.Server.on) (λ done. ClosesHandle c.args.session c.args.handle c.args.named) tt _ c.in_ok-write_pieces.ensures c.close.ensures
