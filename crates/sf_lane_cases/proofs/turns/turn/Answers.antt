use Rattle.std.proofs.Common.{subst}
use Rattle.std.specs.Prelude.{IfOk}
use Rattle.sf_connection.specs.Progress.{Progress}
use Rattle.sf_pool.specs.LaneConnections.{scene_of, IsServingOnLane}
use Rattle.sf_connection.proofs.Laws.{going_of}
use Rattle.sf_lane_cases.proofs.turns.turn.Goals as goal

pub returns-clause-serving : goal.returns-clause-serving
returns-clause-serving g c =
    let scene = scene_of g.D.SessionLane.at g.D.SessionLane.begins g.D.SessionLane.seen in
    let s = subst (λ r. IfOk r (λ x. (p : Progress) × IsServingOnLane scene g.S.Stream.view x p)) c.in_ok-connection.was c.requires.serving in
    let a = c.advance-wants.ensures.served s.0 s.1 in
    (a.0, going_of c.advance-wants.result _ _ c.in_default.not-Ended a.1.2)
