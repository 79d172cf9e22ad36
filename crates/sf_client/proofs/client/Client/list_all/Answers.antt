use Rattle.std.proofs.Common.{◌≡◌, ◌≢◌, None, arith}
use Rattle.sf_client.specs.Ahead.{sender}
use Rattle.sf_client.specs.Calls.{ListsAll}
use Rattle.sf_client.proofs.Pipelines.{missed, failed, none_dropped}
use Rattle.sf_client.proofs.Listing.{list_starts, list_asked, list_gathered, list_ended}
use Rattle.sf_client.proofs.client.Client.list_all.Goals as goal
use Rattle.sf_client.proofs.client.Client.list_all.Goals.{else-has_room-via-then-has_room+else-ahead-lt-LISTINGS, else-has_room-via-else-has_room}

pub parts-init : goal.parts-init
parts-init g c = list_starts c.args.handle c.args.self.now c.new-entries.result.items c.ahead-ahead.result c.requires c.new-entries.ensures.items c.ahead-ahead.ensures

pub parts-preserved-then-ahead-lt-LISTINGS : goal.parts-preserved-then-ahead-lt-LISTINGS
parts-preserved-then-ahead-lt-LISTINGS g c =
    list_asked {z = sender c.ask_names.new.self c.ask_names.new.ahead} c.args.handle c.parts.entries.items c.in_ok-ask_names.field-0 c.parts.invariant (c.has_room.ensures.room c.if-has_room.true) c.in_ok-ask_names.ensures

pub parts-preserved-in-Ok-Some : goal.parts-preserved-in-Ok-Some
parts-preserved-in-Ok-Some g c =
    let h = rw c.in-Ok-Some.field-0-is at c.in-Ok-Some.ensures in
    list_gathered c.args.handle c.parts.entries.items c.in-Ok-Some.part _ c.parts.invariant c.if-ahead-gt0.true h c.gather_names.ensures

pub parts-preserved : goal.parts-preserved
parts-preserved g c =
    let h = rw c.in-Ok-None.field-0-is at c.in-Ok-None.ensures in
    missed c.parts.invariant c.if-ahead-gt0.true h

pub returns-in-Err : goal.returns-in-Err
returns-in-Err g c = failed (ListsAll c.args.handle) c.parts.invariant c.in-Err.fault _ c.if-ahead-gt0.true c.in-Err.ensures

pub returns-else-ahead-gt0 : goal.returns-else-ahead-gt0
returns-else-ahead-gt0 g c =
    let none : c.parts.ahead.waiting ≡ 0 = omega (arith, c.if-ahead-gt0.false) in
    let some : c.parts.ahead.stopped ≢ None = elim c.else-has_room.branch [
      | else-has_room-via-then-has_room+else-ahead-lt-LISTINGS w ↦ absurd (omega (arith, none, w.if-ahead-lt-LISTINGS.false))
      | else-has_room-via-else-has_room w ↦ c.has_room.ensures.none w.if-has_room.false none (none_dropped c.parts.invariant none)
    ] in
    rw c.ended.ensures (list_ended c.args.handle c.parts.entries.items c.parts.invariant none some)
