use Rattle.sf_client.specs.declared.fault.ClientFault.TheVariants as fault
use Rattle.sf_client.proofs.client.Client.take_on.Goals as goal

pub returns-in-Err-OutOfMemory : goal.returns-in-Err-OutOfMemory
returns-in-Err-OutOfMemory g c =
    let h = rw c.in-Err-OutOfMemory.field-0-is at c.in-Err-OutOfMemory.ensures in
    (h.0, fault.OutOfMemory, h.1, h.3, λ none. h.2, c.missed.ensures)
