use Rattle.std.proofs.Common.{◌≡◌, ℕ, nat_lt, ◌&&◌, length, slice_get, Some}
use Rattle.sf_refusing.specs.declared.given.GivenRule.{GivenRule}
use Rattle.sf_refusing.specs.Rules.{fits}
use Rattle.sf_refusing.specs.Counting.{counted_if}
use Rattle.sf_refusing.proofs.given.count_with.Given as goal

abbrev pub invariant-rules : goal.invariant-rules
invariant-rules l = record {
  length : length l.rules.items ≡ length l.initial.rules.items;
  each : (number : ℕ) (given : GivenRule) → slice_get l.initial.rules.items number ≡ Some given
      → slice_get l.rules.items number ≡ Some (counted_if (nat_lt number l.number && fits given.rule l.subject.session l.subject.kind l.subject.paths.items) given);
}
