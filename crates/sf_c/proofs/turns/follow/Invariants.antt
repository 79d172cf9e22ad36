use Rattle.sf_c.specs.Journals.{JournalGoesOn, HaveReplied}
use Rattle.sf_c.proofs.turns.follow.Given as goal

abbrev pub invariant-loop : goal.invariant-loop
invariant-loop l = JournalGoesOn (HaveReplied l.counter l.session l.moment) l.fn.engine l.fn.refusals l.engine l.refusals
