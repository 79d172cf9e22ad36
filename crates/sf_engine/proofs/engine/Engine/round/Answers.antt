use Rattle.std.proofs.Common.{◌≡◌, ℕ, ◌+◌, ◌<◌, List, Bool, true, false, length, slice_get, refl, arith, ap, sym, ◌∙◌, subst}
use Rattle.sf_engine.specs.Views.{EngineView}
use Rattle.sf_engine.specs.Promise.{Entry}
use Rattle.sf_engine.specs.HasLog.{HasLog}
use Rattle.sf_engine.proofs.Base.{get_within}
use Rattle.sf_engine.proofs.Rounds.{RoundsSoFar, start_log, skips_log, steps_log, whole_log, same_count}
use Rattle.sf_engine.proofs.StepsLeft.{WorkSoFar, start_work, skip_works, step_works, round_less}
use Rattle.sf_engine.proofs.engine.Engine.round.Goals as goal
use Rattle.sf_engine.proofs.engine.Engine.round.Goals.{then-is_under_way, else-is_under_way}

pub hosted-init : goal.hosted-init
hosted-init c =
    let is = c.count-at-end.ensures.engine in
    record { log = start_log c.args.self.now; work = start_work c.args.self.now is.0 is.1 }

pub hosted-preserved : goal.hosted-preserved
hosted-preserved c =
    let e : EngineView = c.args.self.now in
    let now : EngineView = c.hosted.self in
    let at = c.hosted.at in
    let l = c.hosted.invariant.log in
    let k = c.hosted.invariant.work in
    let is = c.count-at-end.ensures.engine in
    let count = same_count e at c.hosted.any now l is.0 is.1 in
    let here : at < length e.hosted = omega (arith, c.hosted-test.true, c.count-at-end.ensures.count) in
    let hosted_session = get_within now.hosted at (omega (arith, here, count)) in
    let under = c.is_under_way.ensures hosted_session.0 hosted_session.1 in
    let P : Bool → EngineView → Type 0 = λ any v. RoundsSoFar e (at + 1) any v in
    let W : Bool → EngineView → Type 0 = λ any v. WorkSoFar e (at + 1) any v in
    elim c.if-is_under_way.branch [
      | then-is_under_way w ↦
          let walks = sym under ∙ w.if-is_under_way.true in
          let by_log = steps_log e at c.hosted.any now l hosted_session.0 hosted_session.1 walks w.turn-stepped.result w.turn-stepped.new.self w.turn-stepped.ensures.log in
          let by_work = step_works e at c.hosted.any now l is.0 is.1 here hosted_session.0 hosted_session.1 walks w.turn-stepped.result w.turn-stepped.new.self w.turn-stepped.ensures.log k in record {
            log = subst (λ (b : Bool). P b c.if-is_under_way.self) (sym w.any-is) (subst (λ (v : EngineView). P true v) (sym w.self-is) by_log);
            work = subst (λ (b : Bool). W b c.if-is_under_way.self) (sym w.any-is) (subst (λ (v : EngineView). W true v) (sym w.self-is) by_work);
          }
      | else-is_under_way w ↦
          let rests = sym under ∙ w.if-is_under_way.false in
          let by_log = skips_log e at c.hosted.any now l hosted_session.0 hosted_session.1 rests in
          let by_work = skip_works e at c.hosted.any now l is.0 is.1 here hosted_session.0 hosted_session.1 rests k in record {
            log = subst (λ (b : Bool). P b c.if-is_under_way.self) (sym w.any-is) (subst (λ (v : EngineView). P c.hosted.any v) (sym w.self-is) by_log);
            work = subst (λ (b : Bool). W b c.if-is_under_way.self) (sym w.any-is) (subst (λ (v : EngineView). W c.hosted.any v) (sym w.self-is) by_work);
          }
    ]

pub returns-clause-some : goal.returns-clause-some
returns-clause-some c = λ some.
    let is = c.count-at-end.ensures.engine in
    round_less c.args.self.now c.hosted.at c.hosted.any c.hosted.self is.0 is.1 c.hosted.invariant.log c.hosted.invariant.work (omega (arith, c.hosted-test.false, c.hosted.auto.at-end, c.count-at-end.ensures.count)) some

pub returns-clause-none : goal.returns-clause-none
returns-clause-none c = λ none. c.hosted.invariant.work.same none

pub returns-clause-log : goal.returns-clause-log
returns-clause-log c = whole_log c.args.self.now c.hosted.at c.hosted.any c.hosted.self c.hosted.invariant.log (omega (arith, c.hosted-test.false, c.hosted.auto.at-end, c.count-at-end.ensures.count))
