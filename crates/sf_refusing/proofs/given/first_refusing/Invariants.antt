use Rattle.std.proofs.Common.{◌≡◌, ◌<◌, ℕ, false, slice_get, Some}
use Rattle.sf_refusing.specs.declared.given.GivenRule.{GivenRule}
use Rattle.sf_refusing.specs.Counting.{refuses_now}
use Rattle.sf_refusing.proofs.given.first_refusing.Given as goal

abbrev pub invariant-rules : goal.invariant-rules
invariant-rules l = (other : ℕ) (given : GivenRule) → other < l.number → slice_get l.rules other ≡ Some given
    → refuses_now given l.subject.session l.subject.kind l.subject.paths.items ≡ false
