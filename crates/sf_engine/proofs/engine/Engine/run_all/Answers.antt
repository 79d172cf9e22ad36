use Rattle.std.proofs.Common.{◌<◌, ◌^◌, ℕ, Bool, true, false, [], sym, subst, arith}
use Rattle.sf_engine.specs.Views.{EngineView}
use Rattle.sf_engine.specs.HasLog.{AppendsRound, AppendsRounds, left_to}
use Rattle.sf_engine.proofs.Base.{engine}
use Rattle.sf_engine.proofs.Rounds.{rounds_start, rounds_more, all_decided}
use Rattle.sf_engine.proofs.StepsLeft.{few_left_log}
use Rattle.sf_engine.proofs.Bounds.{within_bounds}
use Rattle.sf_engine.proofs.engine.Engine.run_all.Goals as goal

pub rounds-init : goal.rounds-init
rounds-init c = record {
  log = rounds_start c.args.self.now;
  left = omega arith;
  few = subst (λ (v : EngineView). left_to v < 2 ^ 64) c.self.view_is (few_left_log (engine c.self.inside.core c.self.inside.hosted.items) c.self.invariant.0 c.self.invariant.1);
}

pub rounds-preserved : goal.rounds-preserved
rounds-preserved c =
    let k = c.rounds.invariant in
    let less = c.round.ensures.some c.rounds-test.true in
    record {
      log = rounds_more c.rounds.rounds c.args.self.now c.rounds.self c.round.new.self k.log (subst (λ (b : Bool). AppendsRound c.rounds.self b c.round.new.self) c.rounds-test.true c.round.ensures.log);
      left = omega (arith, k.left, less);
      few = k.few;
    }

pub overflow_add-rounds : goal.overflow_add-rounds
overflow_add-rounds c =
    let k = c.rounds.invariant in
    let less = c.round.ensures.some c.rounds-test.true in
    omega (arith, k.left, k.few, less)

pub returns-clause-log : goal.returns-clause-log
returns-clause-log c = subst (λ (v : EngineView). AppendsRounds c.args.self.now c.rounds.rounds v) (sym (c.round.ensures.none c.rounds-test.false)) c.rounds.invariant.log

pub returns-clause-decided : goal.returns-clause-decided
returns-clause-decided c = all_decided c.rounds.self c.round.new.self (c.round.ensures.none c.rounds-test.false) (subst (λ (b : Bool). AppendsRound c.rounds.self b c.round.new.self) c.rounds-test.false c.round.ensures.log)

pub returns-clause-few : goal.returns-clause-few
returns-clause-few c = let left = c.rounds.invariant.left in within_bounds c.rounds.rounds c.args.self.now (omega (arith, left))
