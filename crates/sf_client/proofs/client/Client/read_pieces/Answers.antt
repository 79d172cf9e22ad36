use Rattle.std.proofs.Common.{◌≡◌, ◌+◌, ◌*◌, length, arith}
use Rattle.sf_client.specs.Ahead.{sender}
use Rattle.sf_client.specs.Calls.{Reads}
use Rattle.sf_client.proofs.Pipelines.{missed, failed, none_dropped}
use Rattle.sf_client.proofs.Reading.{read_starts, read_asked, read_gathered, read_ended}
use Rattle.sf_client.proofs.client.Client.read_pieces.Goals as goal

pub pieces-init : goal.pieces-init
pieces-init g c = read_starts c.args.handle c.args.self.now c.new-bytes.result.items c.ahead-ahead.result c.requires c.new-bytes.ensures.items c.ahead-ahead.ensures

pub pieces-preserved-in_ok-ask_piece : goal.pieces-preserved-in_ok-ask_piece
pieces-preserved-in_ok-ask_piece g c =
    let at : c.len.result + c.from.result * 32768 ≡ length c.pieces.bytes.items + c.pieces.ahead.waiting * 32768 = omega (arith, c.len.ensures, c.pieces.bytes.ok.0, c.from.ensures) in
    read_asked {z = sender c.ask_piece.new.self c.ask_piece.new.ahead} c.args.handle c.pieces.bytes.items _ c.in_ok-ask_piece.field-0 c.pieces.invariant (c.has_room_at.ensures.room c.if-has_room_at.true) at c.in_ok-ask_piece.ensures

pub pieces-preserved-then-gather_piece : goal.pieces-preserved-then-gather_piece
pieces-preserved-then-gather_piece g c =
    let h = rw c.in-Ok-Some.field-0-is at c.in-Ok-Some.ensures in
    read_gathered c.args.handle c.pieces.bytes.items c.in-Ok-Some.piece _ c.pieces.invariant c.if-ahead-gt0.true h c.gather_piece.ensures.gathers

pub pieces-preserved-else-gather_piece : goal.pieces-preserved-else-gather_piece
pieces-preserved-else-gather_piece g c =
    let h = rw c.in-Ok-Some.field-0-is at c.in-Ok-Some.ensures in
    read_gathered c.args.handle c.pieces.bytes.items c.in-Ok-Some.piece _ c.pieces.invariant c.if-ahead-gt0.true h c.gather_piece.ensures.gathers

pub pieces-preserved : goal.pieces-preserved
pieces-preserved g c =
    let h = rw c.in-Ok-None.field-0-is at c.in-Ok-None.ensures in
    missed c.pieces.invariant c.if-ahead-gt0.true h

pub returns-in-Err : goal.returns-in-Err
returns-in-Err g c = failed (Reads c.args.handle) c.pieces.invariant c.in-Err.fault _ c.if-ahead-gt0.true c.in-Err.ensures

pub returns-else-ahead-gt0 : goal.returns-else-ahead-gt0
returns-else-ahead-gt0 g c =
    let none : c.pieces.ahead.waiting ≡ 0 = omega (arith, c.if-ahead-gt0.false) in
    let some = c.has_room_at.ensures.none c.if-has_room_at.false none (none_dropped c.pieces.invariant none) in
    rw c.ended.ensures (read_ended c.args.handle c.pieces.bytes.items c.pieces.invariant none some)
