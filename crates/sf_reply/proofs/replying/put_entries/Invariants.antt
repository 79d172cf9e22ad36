use Rattle.sf_reply.proofs.Entries.{IsPartlyPut}
use Rattle.sf_reply.proofs.replying.put_entries.Given as goal

abbrev pub invariant-loop-entry : goal.invariant-loop-entry
invariant-loop-entry l = IsPartlyPut l.initial.out l.out l.entries l.entry-index
