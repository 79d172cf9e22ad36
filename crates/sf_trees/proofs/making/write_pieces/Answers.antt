use Rattle.std.proofs.Common.{arith}
use Rattle.std.proofs.lemmas.Result.{err_from_is_err_and}
use Rattle.sf_trees.specs.Operations.{request_place}
use Rattle.sf_trees.proofs.Doing.{operation_laws, none_yet, done_further, refused_at_one}
use Rattle.sf_trees.proofs.Ways.{writing}
use Rattle.sf_trees.proofs.making.write_pieces.Goals as goal

pub loop-at-init : goal.loop-at-init
loop-at-init g c = none_yet (operation_laws g.met.S.Server.none g.met.S.Server.on) (writing c.args.session c.args.handle (request_place 6 c.args.named) c.args.contents.now) _

pub loop-at-preserved : goal.loop-at-preserved
loop-at-preserved g c =
    done_further (operation_laws g.met.S.Server.none g.met.S.Server.on) (writing c.args.session c.args.handle (request_place 6 c.args.named) c.args.contents.now) c.loop-at.at c.loop-at.invariant c.in_ok-write_piece.ensures

pub returns-in_err-write_piece : goal.returns-in_err-write_piece
returns-in_err-write_piece g c =
    let p = err_from_is_err_and c.from_residual.result c.from_residual.ensures.1 in
    rw (p.1, p.2) (refused_at_one (operation_laws g.met.S.Server.none g.met.S.Server.on) (writing c.args.session c.args.handle (request_place 6 c.args.named) c.args.contents.now) c.loop-at.at _ _ (omega arith) c.loop-at.invariant c.in_err-write_piece.ensures)
