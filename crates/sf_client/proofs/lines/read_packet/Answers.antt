use Rattle.std.proofs.Common.{drop, arith}
use Rattle.std.proofs.lemmas.List.{length-take-le}
use Rattle.sf_client.proofs.Filling.{HeaderRead, whole_packet, ends_in_header, wrong_header, ends_in_body}
use Rattle.sf_client.proofs.lines.read_packet.Goals as goal

pub returns-then-not-branch-clause-none : goal.returns-then-not-branch-clause-none
returns-then-not-branch-clause-none g c = ends_in_header _ _ (omega arith) (c.in_ok-fill.ensures.short c.if-not-branch.true)

pub returns-in_default-clause-none : goal.returns-in_default-clause-none
returns-in_default-clause-none g c = wrong_header _ _ c.fill.new.buffer (c.in_ok-fill.ensures.full c.if-not-branch.false) (omega arith) c.in_default.ensures.none

pub returns-then-not-branch-2-clause-none : goal.returns-then-not-branch-2-clause-none
returns-then-not-branch-2-clause-none g c =
    let some = c.in-Some.ensures.some in
    let len = length-take-le c.in-Some.len c.args.buffer.now (omega (arith, some.1, c.requires)) in
    let header : HeaderRead _ _ c.fill.new.buffer c.in-Some.len = record { read = c.in_ok-fill.ensures.full c.if-not-branch.false; short = some.1; tells = some.2 } in
    ends_in_body _ _ c.in-Some.len _ header (omega arith) (c.in_ok-fill-2.ensures.short c.if-not-branch-2.true)

pub returns-clause-read : goal.returns-clause-read
returns-clause-read g c =
    let some = c.in-Some.ensures.some in
    let len = length-take-le c.in-Some.len c.args.buffer.now (omega (arith, some.1, c.requires)) in
    let header : HeaderRead _ _ c.fill.new.buffer c.in-Some.len = record { read = c.in_ok-fill.ensures.full c.if-not-branch.false; short = some.1; tells = some.2 } in
    whole_packet _ c.fill-2.new.buffer (drop c.in-Some.len c.args.buffer.now) header (c.in_ok-fill-2.ensures.full c.if-not-branch-2.false) (omega arith)
