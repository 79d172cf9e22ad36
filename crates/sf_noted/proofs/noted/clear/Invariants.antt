use Rattle.std.proofs.Common.{◌≡◌, ◌++◌, ℕ, List}
use Rattle.sf_noted.specs.Pages.{Page}
use Rattle.sf_noted.specs.Closing.{AreCleared}
use Rattle.sf_noted.proofs.noted.clear.Given as goal

-- the cleared ones, and then those that are left
abbrev pub invariant-loop-visit : goal.invariant-loop-visit
invariant-loop-visit g l = (done : List (ℕ × Page)) × (done ++ l.visit-iterator.rest.items ≡ l.fn.visits.items) × AreCleared l.fn.keeper done l.keeper
