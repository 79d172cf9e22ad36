use Rattle.std.proofs.Common.{◌∙◌, Ok, Err, refl, ap}
use Rattle.sf_session.specs.declared.fault.ServeFault.TheVariants.{OutOfMemory, NumbersSpent}
use Rattle.sf_engine.specs.declared.event.Happened.{Happened}
use Rattle.sf_connection.specs.declared.host.SessionStep.TheVariants as session_step
use Rattle.sf_alone.proofs.Turning.{still_turns}
use Rattle.sf_alone.proofs.Ending.{may_start, goes_turn, low_turn, begin_as, gone, gone_spent}
use Rattle.sf_alone.proofs.on_engine.EngineHostHostEngine.go_on.Goals.{in-Wrote+else-wants_bytes+else-waiting-ge-BATCH, in_default}
use Rattle.sf_alone.proofs.on_engine.EngineHostHostEngine.go_on.Goals as goal

pub loop-self-init : goal.loop-self-init
loop-self-init g c = record { session = refl; told = λ start t tells is_open sent. may_start tells is_open sent }

pub returns-in-Err-clause-step : goal.returns-in-Err-clause-step
returns-in-Err-clause-step g c = λ start t tells is_open read sent.
    gone (Err OutOfMemory) c.loop-self.invariant.session is_open read sent (c.loop-self.invariant.told start t tells is_open sent) c.turns.ensures c.in-Err.is tt

pub returns-in-Idle-clause-step : goal.returns-in-Idle-clause-step
returns-in-Idle-clause-step g c = λ start t tells is_open read sent.
    gone (Ok session_step.Waits) c.loop-self.invariant.session is_open read sent (c.loop-self.invariant.told start t tells is_open sent) c.turns.ensures (c.in-Ok.is ∙ ap (λ (x : Happened). Ok x) c.in-Idle.is) tt

pub returns-in-Ended-clause-step : goal.returns-in-Ended-clause-step
returns-in-Ended-clause-step g c = λ start t tells is_open read sent.
    gone (Ok (session_step.Ended c.in-Ended.cause)) c.loop-self.invariant.session is_open read sent (c.loop-self.invariant.told start t tells is_open sent) c.turns.ensures (c.in-Ok.is ∙ ap (λ (x : Happened). Ok x) c.in-Ended.is) refl

pub returns-then-wants_bytes-clause-step : goal.returns-then-wants_bytes-clause-step
returns-then-wants_bytes-clause-step g c = λ start t tells is_open read sent.
    gone (Ok session_step.Waits) c.loop-self.invariant.session is_open read sent (c.loop-self.invariant.told start t tells is_open sent) c.turns.ensures (c.in-Ok.is ∙ ap (λ (x : Happened). Ok x) c.in-Wrote.is) c.if-wants_bytes.ensures

pub returns-then-waiting-ge-BATCH-clause-step : goal.returns-then-waiting-ge-BATCH-clause-step
returns-then-waiting-ge-BATCH-clause-step g c = λ start t tells is_open read sent.
    gone (Ok session_step.Answered) c.loop-self.invariant.session is_open read sent (c.loop-self.invariant.told start t tells is_open sent) c.turns.ensures (c.in-Ok.is ∙ ap (λ (x : Happened). Ok x) c.in-Wrote.is) tt

pub loop-self-preserved : goal.loop-self-preserved
loop-self-preserved g c = record {
  session = c.loop-self.invariant.session;
  told = λ start t tells is_open sent.
      let h = goes_turn c.loop-self.invariant.session (c.loop-self.invariant.told start t tells is_open sent) c.turns.ensures c.in-Ok.is in
      begin_as c.may_begin_after-may_begin.ensures (elim c.match-happened.branch [
        | in-Wrote+else-wants_bytes+else-waiting-ge-BATCH w ↦ low_turn w.waiting.result.now w.in-Wrote.is c.loop-self.invariant.session w.waiting.ensures w.if-waiting-ge-BATCH.false h
        | in_default w ↦ still_turns h w.in_default.not-Idle w.in_default.not-Ended w.in_default.not-Wrote
      ]);
}

pub returns-clause-step : goal.returns-clause-step
returns-clause-step g c = λ start t tells is_open read sent. gone_spent NumbersSpent c.loop-self.invariant.session is_open read sent (c.loop-self.invariant.told start t tells is_open sent)
