use Rattle.std.proofs.Common.{◌≡◌, sym, subst}
use Rattle.sf_pool.specs.SessionLanes.{new_session_lane}
use Rattle.sf_workers.proofs.Ending.{goes_or_ends}
use Rattle.sf_workers.proofs.open_session.advance_session.Goals as goal

pub returns-clause-ended : goal.returns-clause-ended
returns-clause-ended g c =
    let on = c.requires.is_open in
    let next = c.advance.ensures.served on.1.0 on.1.1 in
    goes_or_ends c.advance.result g.L.Stream.view c.advance.new.self on.1.0 next.0
    (subst (λ s. s.value.transcript_lane ≡ new_session_lane s.value.transcript_lane.keeps) (sym c.advance.ensures.lane) on.0) c.advance.ensures.ended next.1
