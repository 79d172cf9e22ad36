use Rattle.std.proofs.Common.{arith}
use Rattle.sf_workers.proofs.Queues.{none_queued}
use Rattle.sf_workers.proofs.ready.ReadyKeys.none.Goals as goal

pub invariant_of-result : goal.invariant_of-result
invariant_of-result c = (
  none_queued _ _ 256 c.in_ok-with_capacity.ensures.items (c.in_ok-vec.ensures.items_if_clones_equal (λ y e. e)),
  omega (arith, c.in_ok-vec.ensures.len),
  omega (arith, c.in_ok-with_capacity.ensures.capacity),
)
