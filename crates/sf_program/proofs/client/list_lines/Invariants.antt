use Rattle.sf_program.proofs.Lines.{WrittenBefore}
use Rattle.sf_program.proofs.client.list_lines.Given as goal

abbrev pub invariant-loop-entry : goal.invariant-loop-entry
invariant-loop-entry l = WrittenBefore l.lines.items l.entries l.entry-index
