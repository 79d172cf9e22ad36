use Rattle.std.proofs.Common.{List, sym, subst}
use Rattle.std.specs.Prelude.{IfOk}
use Rattle.sf_call.specs.declared.record.Record.{Record}
use Rattle.sf_pool.specs.SessionLanes.{SessionLaneView, HasSeenCalls}
use Rattle.sf_pool.proofs.shared_lane.SharedLaneSessionLane.join.Goals as goal

pub returns-clause-own : goal.returns-clause-own
returns-clause-own g c =
    let joined = c.join-joined.result in
    let e = c.release.ensures in
    subst (λ (h : List Record). IfOk joined (λ _. HasSeenCalls h c.release.new.self.transcript_lane)) (sym e.seen)
    (subst (λ (d : SessionLaneView). IfOk joined (λ _. HasSeenCalls c.join-joined.new.seen d)) (sym e.transcript_lane) c.join-joined.ensures.own)
