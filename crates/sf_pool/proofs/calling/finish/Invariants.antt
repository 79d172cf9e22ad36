use Rattle.std.proofs.Common.{◌≡◌, ◌≤◌}
use Rattle.sf_pool.specs.SessionLanes.{SeesOn}
use Rattle.sf_pool.specs.LaneHosts.{after_steps}
use Rattle.sf_pool.proofs.calling.finish.Given as goal

-- the call goes on, each step is counted, no other call is asked for, and more is seen
abbrev pub invariant-loop-steps : goal.invariant-loop-steps
invariant-loop-steps g l = record {
  same : g.D.SessionLane.at l.lane ≡ after_steps (g.D.SessionLane.at l.initial.lane) (g.D.SessionLane.at l.lane).steps;
  count : l.steps ≤ (g.D.SessionLane.at l.lane).steps;
  begins : g.D.SessionLane.begins l.lane ≡ g.D.SessionLane.begins l.initial.lane;
  sees : SeesOn (g.D.SessionLane.seen l.initial.lane) (g.D.SessionLane.at l.initial.lane) (g.D.SessionLane.seen l.lane) (g.D.SessionLane.at l.lane);
}
