use Rattle.std.proofs.Common.{◌<◌, ◌≤◌, ◌+◌, ◌^◌}
use Rattle.sf_engine.specs.HasLog.{AppendsRounds, left_to}
use Rattle.sf_engine.proofs.engine.Engine.run_all.Given as goal

abbrev pub invariant-rounds : goal.invariant-rounds
invariant-rounds l = record {
  log : AppendsRounds l.fn.self l.rounds l.self;
  left : l.rounds + left_to l.self ≤ left_to l.fn.self;
  few : left_to l.fn.self < 2 ^ 64;
}

abbrev pub decreases-rounds : goal.decreases-rounds
decreases-rounds l = left_to l.self
