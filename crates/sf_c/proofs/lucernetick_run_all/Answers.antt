use Rattle.std.proofs.Common.{subst}
use Rattle.sf_engine.specs.HasLog.{AppendsRounds, IsWithinBounds}
use Rattle.sf_engine.specs.Views.{EngineView}
use Rattle.sf_engine.proofs.Laws.{promised}
use Rattle.sf_c.specs.Numbers.{RunsRounds}
use Rattle.sf_c.proofs.lucernetick_run_all.Goals as goal

pub returns : goal.returns
returns c =
    let count = c.run_all-rounds.result in
    let old = c.take-engine.result.value in
    let new = c.run_all-rounds.new.self in
    let P : EngineView → Type 0 = λ e. AppendsRounds e count new × IsWithinBounds count e in
    let run = subst P c.deref_mut.ensures.value (c.run_all-rounds.ensures.log, c.run_all-rounds.ensures.few) in
    let rounds : RunsRounds count old new = (
      (λ log has. let it = run.0 log has.0 in (it.0, it.1, it.2, promised it.3)),
      (λ log has. run.1 log has.0),
      (λ log has. c.run_all-rounds.ensures.decided log has.0),
    ) in
    (old, new, c.take-engine.ensures.engine, c.put.ensures, rounds)
