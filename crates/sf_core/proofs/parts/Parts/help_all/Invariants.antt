use Rattle.std.proofs.Common.{◌≤◌, drop, length}
use Rattle.sf_core.specs.Parts.{PartsView}
use Rattle.sf_core.specs.Finishing.{AreOnPaths, IsSettledWhereFree}
use Rattle.sf_core.specs.Stepping.{HelpsAll}
use Rattle.sf_core.proofs.parts.Parts.help_all.Given as goal

abbrev pub invariant-loop-number : goal.invariant-loop-number
invariant-loop-number l = record {
  room : length (drop l.number-index l.numbers) ≤ l.self.book.room;
  settled : IsSettledWhereFree l.self.store;
  paths : AreOnPaths l.self (drop l.number-index l.numbers);
  helps : (q : PartsView) → HelpsAll l.self (drop l.number-index l.numbers) q → HelpsAll l.fn.self l.numbers q;
}
