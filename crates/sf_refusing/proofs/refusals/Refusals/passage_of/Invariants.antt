use Rattle.std.proofs.Common.{◌-◌, List, length}
use Rattle.sf_refusing.specs.Journal.{Act}
use Rattle.sf_refusing.specs.Refusing.{HasJournal}
use Rattle.sf_refusing.proofs.refusals.Refusals.passage_of.Given as goal

abbrev pub invariant-passages : goal.invariant-passages
invariant-passages l = (journal : List Act) → HasJournal l.initial.self journal → HasJournal l.self journal

abbrev pub decreases-passages : goal.decreases-passages
decreases-passages l = l.session - length l.self.passages.items
