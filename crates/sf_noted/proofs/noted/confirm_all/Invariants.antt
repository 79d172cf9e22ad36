use Rattle.std.proofs.Common.{◌≡◌, ◌++◌, All}
use Rattle.sf_noted.specs.Visits.{IsOnPage}
use Rattle.sf_noted.proofs.noted.confirm_all.Given as goal

-- the confirmed ones, and then those that are left
abbrev pub invariant-loop-visit : goal.invariant-loop-visit
invariant-loop-visit g l = record {
  core : l.core ≡ l.fn.core;
  visits : l.all.items ++ l.visit-iterator.rest.items ≡ l.fn.visits.items;
  pages : All (IsOnPage l.fn.core.1) l.all.items;
}
