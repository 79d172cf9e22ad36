use Rattle.std.proofs.Common.{List}
use Rattle.sf_engine.specs.Promise.{Entry}
use Rattle.sf_engine.specs.HasLog.{HasLog}
use Rattle.sf_engine.proofs.Rounds.{RoundsSoFar}
use Rattle.sf_engine.proofs.StepsLeft.{WorkSoFar}
use Rattle.sf_engine.proofs.engine.Engine.round.Given as goal

abbrev pub invariant-hosted : goal.invariant-hosted
invariant-hosted l = record {
  log : RoundsSoFar l.fn.self l.at l.any l.self;
  work : WorkSoFar l.fn.self l.at l.any l.self;
}
