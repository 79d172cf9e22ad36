use Rattle.std.proofs.Common.{take, arith}
use Rattle.std.proofs.lemmas.List.{length-take-le}
use Rattle.sf_reply.specs.Reading.{reply_of}
use Rattle.sf_client.proofs.Steps.{no_packet, no_expected, a_reply}
use Rattle.sf_client.proofs.client.read_pending.Goals as goal

pub returns-in-Ok-None-clause-reads : goal.returns-in-Ok-None-clause-reads
returns-in-Ok-None-clause-reads g c =
    let none = rw c.in-Ok-None.field-0-is at c.in-Ok-None.ensures.none in
    no_packet _ c.args.id c.args.pending none

pub returns-in_default-clause-reads : goal.returns-in_default-clause-reads
returns-in_default-clause-reads g c =
    let read = rw c.in-Ok-Some.field-0-is at c.in-Ok-Some.ensures.read in
    let within = rw c.in-Ok-Some.field-0-is at c.in-Ok-Some.ensures.within in
    let len = length-take-le c.in-Ok-Some.len c.read_packet.new.buffer within in
    no_expected _ _ c.args.id c.args.pending (take c.in-Ok-Some.len c.read_packet.new.buffer) read (omega (arith, len, within, c.requires)) (omega arith) c.in_default.ensures.none

pub returns-in-Ok-clause-reads : goal.returns-in-Ok-clause-reads
returns-in-Ok-clause-reads g c =
    let read = rw c.in-Ok-Some.field-0-is at c.in-Ok-Some.ensures.read in
    let found = c.in-Some.ensures.found in
    rw c.in-Ok.ensures.reply (found.1, a_reply _ _ c.args.id _ (reply_of c.in-Some.found) read found.0)
