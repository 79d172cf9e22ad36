use Rattle.std.proofs.Common.{◌≡◌, ◌<◌, ◌^◌, ◌∙◌, ℕ, suc, Some, refl, sym, subst, arith}
use Rattle.sf_call.specs.declared.call.Stage.{Stage}
use Rattle.sf_call.specs.Unanswered.{at_stage}
use Rattle.sf_walk.specs.declared.walking.Walk.{Walk}
use Rattle.sf_walk.specs.declared.walking.Walk.TheVariants as walk
use Rattle.sf_call.specs.Routes.{Route, route_in}
use Rattle.sf_walk.specs.Routes.{HoldsWay}
use Rattle.sf_walk.specs.Steps.{Advances, walker}
use Rattle.sf_core.specs.declared.parts.WalkOutcome.TheVariants as outcome
use Rattle.sf_core.specs.Lanes.{LaneView}
use Rattle.sf_core.specs.Parts.{PartsView}
use Rattle.sf_core.specs.Sound.{IsCore}
use Rattle.sf_core.specs.Stepping.{CallStep, Moved, come_to}
use Rattle.sf_core.proofs.Deciding.{stands}
use Rattle.sf_core.proofs.Maps.{reply_is}
use Rattle.sf_core.proofs.Walks.{moved_core, moved_more, moved_free, none_moved, rooted}
use Rattle.sf_core.proofs.UnderWay.{staged_there, step_more, under_way, come_same, stage_stays}
use Rattle.sf_core.proofs.parts.go_on.Goals as goal

pub loop-init : goal.loop-init
loop-init c =
    let call = c.args.call.now in
    record {
      walks = λ p number on.
          let same : p ≡ come_to p number c.args.store.now c.args.stage.now = sym (come_same number call p c.args.store.now c.args.stage.now on) in
          (0, refl, subst (λ (q : PartsView). Moved 0 p call.session number q) same (none_moved p call.session number), subst IsCore same on.core, on.free);
    }

pub advance-requires-clause-root : goal.advance-requires-clause-root
advance-requires-clause-root c =
    let it = c.loop.invariant.walks c.requires.core.0 c.requires.core.1 c.requires.core.2 in
    rooted (come_to c.requires.core.0 c.requires.core.1 c.loop.store c.loop.stage) it.3

pub advance-requires-clause-stands : goal.advance-requires-clause-stands
advance-requires-clause-stands c =
    let call = c.args.call.now in
    let p = c.requires.core.0 in
    let number = c.requires.core.1 in
    let it = c.loop.invariant.walks p number c.requires.core.2 in
    subst (λ (r : Route). HoldsWay c.loop.store r c.loop.stage) (sym c.requires.route)
    (stands (come_to p number c.loop.store c.loop.stage) it.3.history it.3.sound number (at_stage c.loop.stage call)
    (under_way number call p c.args.store.now c.loop.store c.args.stage.now c.loop.stage c.requires.core.2 it.3 it.4).call
    (reply_is (at_stage c.loop.stage call) ∙ c.requires.core.2.undecided))

pub loop-preserved : goal.loop-preserved
loop-preserved c =
    let call = c.args.call.now in
    let to = c.advance.new.store in
    let after = c.in-Moved.after in
    record {
      walks = λ p number on.
          let lane : LaneView = record { session = call.session; call = Some number; begun = 0 } in
          let it = c.loop.invariant.walks p number on in
          let q = come_to p number c.loop.store c.loop.stage in
          let q' = come_to p number to after in
          let stepped : CallStep q call.session number (outcome.Walked (walk.Moved after)) q' =
          step_more number call p c.args.store.now c.loop.store to c.args.stage.now c.loop.stage (walk.Moved after) on it.3 it.4
          (subst (λ (k : ℕ). k < 2 ^ 64) c.look_ups-count.ensures c.look_ups-count.type_inv)
          (subst (λ (r : Route). Advances c.loop.store to (walker call.number r c.loop.stage) (walk.Moved after)) c.requires.route
          (subst (λ (w : Walk). Advances c.loop.store to (walker call.number (route_in c.args.route) c.loop.stage) w) c.in-Moved.is c.advance.ensures)) in (
            suc it.0,
            omega (arith, it.1),
            moved_more lane number refl it.0 p q q' after it.2 stepped,
            moved_core lane number refl q q' after stepped,
            record {
              free = (moved_free lane number refl q q' after stepped (at_stage after call)
                  (staged_there p.calls number after (at_stage c.args.stage.now call) on.call)).free;
            },
          );
    }

pub returns-in_default : goal.returns-in_default
returns-in_default c = λ p number on.
    let call = c.args.call.now in
    let to = c.advance.new.store in
    let result = c.advance.result in
    let it = c.loop.invariant.walks p number on in
    let q = come_to p number c.loop.store c.loop.stage in
    let less = c.loop-test.true in
    record {
      moves = it.0;
      mid = q;
      few = omega (arith, it.1, less);
      moved = it.2;
      last = subst (λ (g : Stage). CallStep q call.session number (outcome.Walked result) (come_to p number to g)) (stage_stays result c.loop.stage c.in_default.not-Moved)
          (step_more number call p c.args.store.now c.loop.store to c.args.stage.now c.loop.stage result on it.3 it.4
          (subst (λ (k : ℕ). k < 2 ^ 64) c.look_ups-count.ensures c.look_ups-count.type_inv)
          (subst (λ (r : Route). Advances c.loop.store to (walker call.number r c.loop.stage) result) c.requires.route c.advance.ensures));
      full = λ after e. absurd (c.in_default.not-Moved after cc);
    }

pub step-requires-clause-root : goal.step-requires-clause-root
step-requires-clause-root c =
    let it = c.loop.invariant.walks c.requires.core.0 c.requires.core.1 c.requires.core.2 in
    rooted (come_to c.requires.core.0 c.requires.core.1 c.loop.store c.loop.stage) it.3

pub step-requires-clause-stands : goal.step-requires-clause-stands
step-requires-clause-stands c =
    let call = c.args.call.now in
    let p = c.requires.core.0 in
    let number = c.requires.core.1 in
    let it = c.loop.invariant.walks p number c.requires.core.2 in
    subst (λ (r : Route). HoldsWay c.loop.store r c.loop.stage) (sym c.requires.route)
    (stands (come_to p number c.loop.store c.loop.stage) it.3.history it.3.sound number (at_stage c.loop.stage call)
    (under_way number call p c.args.store.now c.loop.store c.args.stage.now c.loop.stage c.requires.core.2 it.3 it.4).call
    (reply_is (at_stage c.loop.stage call) ∙ c.requires.core.2.undecided))

pub returns : goal.returns
returns c = λ p number on.
    let call = c.args.call.now in
    let step = c.step in
    let it = c.loop.invariant.walks p number on in
    let q = come_to p number c.loop.store c.loop.stage in
    let some = c.requires.some in
    let all = c.loop.auto.counter-end in
    let done = c.loop-test.false in
    record {
      moves = it.0;
      mid = q;
      few = let fits = all some in omega (arith, it.1, fits);
      moved = it.2;
      last = subst (λ (g : Stage). CallStep q call.session number (outcome.Walked step.result) (come_to p number step.new.store g)) (sym step.ensures.stage)
          (step_more number call p c.args.store.now c.loop.store step.new.store c.args.stage.now c.loop.stage step.result on it.3 it.4 step.ensures.fits (subst (λ (r : Route). Advances c.loop.store step.new.store (walker call.number r c.loop.stage) step.result) c.requires.route step.ensures.advances));
      full = λ after e. let fits = all some in omega (arith, it.1, fits, done);
    }
