use Rattle.std.proofs.Common.{refl}
use Rattle.sf_reply.specs.declared.reply.Reply.TheVariants as reply
use Rattle.sf_client.proofs.Reading.{no_size}
use Rattle.sf_client.proofs.client.Client.stated_size.Goals as goal

pub returns-in-Err-Status : goal.returns-in-Err-Status
returns-in-Err-Status g c =
    let h = rw c.in-Err-Status.field-0-is at c.in-Err-Status.ensures.comes in
    let k = h refl in
    (k.0, no_size k.0 c.in-Err-Status.field-0-0 k.1, rw (← c.to_be_bytes-number.ensures, ← c.new.ensures) k.2)

pub returns : goal.returns
returns g c =
    let h = rw c.in-Ok-Attrs.field-0-is at c.in-Ok-Attrs.ensures.comes in
    (reply.Attrs c.in-Ok-Attrs.attrs, c.unwrap_or.ensures, rw (← c.to_be_bytes-number.ensures, ← c.new.ensures) (h refl))
