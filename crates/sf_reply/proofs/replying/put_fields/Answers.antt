use Rattle.std.proofs.Common.{ap, arith, length}
use Rattle.sf_reply.specs.Replies.{fields_of}
use Rattle.sf_reply.proofs.Entries.{count_short}
use Rattle.sf_reply.proofs.replying.put_fields.Goals as goal

pub overflow_cast-entries : goal.overflow_cast-entries
overflow_cast-entries c = omega (arith, ap length c.as_slice-entries.ensures, count_short c.in-Names.listing, c.requires.short, ap (λ r. length (fields_of r)) c.in-Names.is)

pub returns-in-NoMemory-clause-items : goal.returns-in-NoMemory-clause-items
returns-in-NoMemory-clause-items c = rw c.in-NoMemory.is c.put_status-in-NoMemory.ensures.items
