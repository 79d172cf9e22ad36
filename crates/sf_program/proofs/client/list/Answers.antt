use Rattle.std.proofs.Common.{List, subst}
use Rattle.sf_reply.specs.declared.reply.Entry.{Entry}
use Rattle.sf_program.specs.Commands.{AreLinesOf}
use Rattle.sf_program.proofs.client.list.Goals as goal

pub returns-in-Ok : goal.returns-in-Ok
returns-in-Ok g c = (c.in_ok-entries.entries.items, c.in_ok-entries.ensures, subst (λ (es : List Entry). AreLinesOf es c.in-Ok.lines.items) c.deref.ensures.value c.in-Ok.ensures)
