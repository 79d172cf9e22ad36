use Rattle.std.proofs.Common.{ap, List, ℕ, arith}
use Rattle.sf_core.specs.Progress.{undecided_in}
use Rattle.sf_call.specs.declared.call.Call.{Call}
use Rattle.sf_core.proofs.Beginning.{sound_new, core_new}
use Rattle.sf_core.proofs.cores.Core.with_keep.Goals as goal

pub invariant_of-result : goal.invariant_of-result
invariant_of-result c =
    let none = ap (λ (calls : List (ℕ × Call)). undecided_in calls) c.in_ok-new.ensures.parts.calls in
    (core_new c.in_ok-new.field-0 c.in_ok-new.ensures.parts, omega (arith, none))

pub returns-clause-history : goal.returns-clause-history
returns-clause-history c = (sound_new c.in_ok-new.field-0 c.in_ok-new.ensures.parts).history
