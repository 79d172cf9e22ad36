use Rattle.std.proofs.Common.{◌≡◌, vec_len, IfOk}
use Rattle.sf_connection.specs.Progress.{Progress}
use Rattle.sf_pool.specs.LaneConnections.{scene_of, IsServingOnLane}
use Rattle.sf_lane_cases.proofs.turns.serve_both.Given as goal

-- each session is served, or has ended
abbrev pub invariant-loop : goal.invariant-loop
invariant-loop g l = record {
  one : IfOk l.one (λ c. (p : Progress) × IsServingOnLane (scene_of g.D.SessionLane.at g.D.SessionLane.begins g.D.SessionLane.seen) g.S.Stream.view c p);
  other : IfOk l.other (λ c. (p : Progress) × IsServingOnLane (scene_of g.D.SessionLane.at g.D.SessionLane.begins g.D.SessionLane.seen) g.S.Stream.view c p);
  room : vec_len l.piece ≡ 65536;
}
