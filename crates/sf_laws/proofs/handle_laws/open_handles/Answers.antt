use Rattle.std.proofs.Common.{Option, IfSome, IsSome, subst}
use Rattle.std.specs.Ordering.{nat_cmp}
use Rattle.std.specs.BTreeMap.{is_at}
use Rattle.sf_call.specs.declared.handle.Handle.{Handle}
use Rattle.sf_call.specs.Tree.{object_of}
use Rattle.sf_call.specs.Histories.{replay}
use Rattle.sf_call.proofs.Laws.{found_value}
use Rattle.sf_laws.proofs.OpenHandles.{handles_hold}
use Rattle.sf_laws.proofs.handle_laws.open_handles.Goals as goal

pub returns : goal.returns
returns c history number handle legal is =
    subst (λ (o : Option Handle). IfSome o (λ x. IsSome (object_of (replay history).objects x.label))) is
    (found_value (λ (x : Handle). IsSome (object_of (replay history).objects x.label)) (is_at (nat_cmp number)) (replay history).handles (handles_hold history legal).founded)
