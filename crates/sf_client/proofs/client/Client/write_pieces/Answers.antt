use Rattle.std.proofs.lemmas.Result.{err_from_is_err_and}
use Rattle.sf_client.specs.Calls.{WritesAll}
use Rattle.sf_client.proofs.Pipelines.{failed}
use Rattle.sf_client.proofs.Writing.{write_starts, write_sent, write_unsent, write_replied, not_empty}
use Rattle.sf_client.proofs.client.Client.write_pieces.Goals as goal

pub pieces-init : goal.pieces-init
pieces-init g c = write_starts c.args.handle c.args.bytes.now c.args.self.now c.ahead-ahead.result c.requires c.ahead-ahead.ensures

pub pieces-preserved-then-branch : goal.pieces-preserved-then-branch
pieces-preserved-then-branch g c =
    let some = not_empty c.is_empty.result c.pieces.rest.now c.is_empty.ensures c.if-not-is_empty.true in
    let h = rw (c.if-branch.true, c.split_at.ensures.front) at c.in_ok-send_piece.ensures in
    rw (c.split_at.ensures.front, c.split_at.ensures.back) (write_sent c.pieces.invariant c.min.result _ some c.min.ensures (c.has_room.ensures.room c.if-has_room.true) h)

pub pieces-preserved-else-branch : goal.pieces-preserved-else-branch
pieces-preserved-else-branch g c =
    let h = rw c.if-branch.false at c.in_ok-send_piece.ensures in
    write_unsent c.pieces.invariant _ (c.has_room.ensures.room c.if-has_room.true) h

pub returns-in_err-take_success : goal.returns-in_err-take_success
returns-in_err-take_success g c =
    let p = err_from_is_err_and c.from_residual-in_err-take_success.result c.from_residual-in_err-take_success.ensures.1 in
    rw (p.1, p.2) (failed (WritesAll c.args.bytes.now c.args.handle) c.pieces.invariant.at c.in_err-take_success.field-0.0 _ c.if-ahead-gt0.true c.in_err-take_success.ensures)

pub pieces-preserved : goal.pieces-preserved
pieces-preserved g c = write_replied c.pieces.invariant c.in_ok-take_success.field-0 _ c.if-ahead-gt0.true c.in_ok-take_success.ensures
