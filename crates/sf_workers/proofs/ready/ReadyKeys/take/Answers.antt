use Rattle.std.proofs.Common.{arith, subst}
use Rattle.sf_workers.specs.Ready.{IsKeyQueue}
use Rattle.sf_workers.proofs.Queues.{first_is_set, set_within, popped}
use Rattle.sf_workers.proofs.ready.ReadyKeys.take.Goals as goal

pub index_mut-requires : goal.index_mut-requires
index_mut-requires c =
    let v = c.self.inside.is_queued in
    let i = c.self.invariant in
    let key = c.in_ok-key.key in
    let all = subst (λ q. IsKeyQueue q v.items) c.in_ok-key.ensures.items i.0 in
    omega (arith, set_within v.items key (first_is_set v.items key c.pop_front.new.self.items all), v.ok.0)

pub invariant_of-self-2 : goal.invariant_of-self-2
invariant_of-self-2 c =
    let v = c.self.inside.is_queued in
    let i = c.self.invariant in
    let key = c.in_ok-key.key in
    let all = subst (λ q. IsKeyQueue q v.items) c.in_ok-key.ensures.items i.0 in
    (popped v.items key c.pop_front.new.self.items all, i.1, omega (arith, c.in_ok-key.ensures.capacity, i.2))
