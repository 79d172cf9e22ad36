use Rattle.std.proofs.Common.{take, subst, arith}
use Rattle.std.proofs.lemmas.List.{length-take-le}
use Rattle.sf_client.specs.Exchanges.{HasNoVersion}
use Rattle.sf_client.proofs.Steps.{no_version, other_version}
use Rattle.sf_client.proofs.client.greet.Goals as goal

pub returns-in-Ok-None-clause-refused : goal.returns-in-Ok-None-clause-refused
returns-in-Ok-None-clause-refused g c = λ e.
    let none = rw c.in-Ok-None.field-0-is at c.in-Ok-None.ensures.none in
    subst HasNoVersion c.write_all.ensures.incoming (no_version _ none)

pub returns-else-is_version-clause-refused : goal.returns-else-is_version-clause-refused
returns-else-is_version-clause-refused g c = λ e.
    let read = rw c.in-Ok-Some.field-0-is at c.in-Ok-Some.ensures.read in
    let within = rw c.in-Ok-Some.field-0-is at c.in-Ok-Some.ensures.within in
    let len = length-take-le c.in-Ok-Some.len c.read_packet.new.buffer within in
    subst HasNoVersion c.write_all.ensures.incoming (other_version _ _ (take c.in-Ok-Some.len c.read_packet.new.buffer) read (omega (arith, len, within, c.requires)) (λ same. let yes = c.is_version.ensures.1 same in let no = c.if-is_version.false in cc))
