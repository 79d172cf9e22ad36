use Rattle.sf_asking.proofs.Bodies.{no_body, no_reply}
use Rattle.sf_asking.proofs.packet.read_packet.Goals as goal

pub returns-in_default-clause-err : goal.returns-in_default-clause-err
returns-in_default-clause-err c = no_body c.args.output.now c.in_default.ensures.none

pub returns-in-Ok-None-clause-err : goal.returns-in-Ok-None-clause-err
returns-in-Ok-None-clause-err c =
    let some = c.in-Some.ensures.some in
    let none = rw c.in-Ok-None.field-0-is at c.in-Ok-None.ensures.none in
    no_reply c.args.output.now c.in-Some.body.now some.0 some.1 none
