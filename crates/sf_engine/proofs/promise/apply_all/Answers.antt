use Rattle.std.proofs.Common.{◌≡◌, ◌+◌, ℕ, List, [], ◌∷◌, ◌++◌, Some, length, take, slice_get, Result, sym, ap, ◌∙◌, subst, arith, inl, inr, length-append}
use Rattle.std.specs.Global.{Vec}
use Rattle.std.proofs.lemmas.List.{take_more, take_all}
use Rattle.sf_engine.specs.declared.event.Event.{Event}
use Rattle.sf_engine.specs.declared.event.Happened.{Happened}
use Rattle.sf_engine.specs.declared.event.EngineFault.{EngineFault}
use Rattle.sf_engine.specs.Promise.{of_session, IsUnsent}
use Rattle.sf_engine.proofs.Outcomes.{IsLogOf, no_log, log_push}
use Rattle.sf_engine.proofs.Base.{get_push}
use Rattle.sf_engine.proofs.promise.apply_all.Goals as goal

pub events-init : goal.events-init
events-init g c = record {
  few = omega arith;
  log = ([], subst (λ (xs : List (Result Happened EngineFault)). IsLogOf [] xs 0 []) (sym c.new-results.ensures.items) no_log, c.in_ok-engine.ensures);
}

pub events-preserved : goal.events-preserved
events-preserved g c =
    let inv = c.events.invariant.log in
    let item : Event = c.event-item.result in
    let on = c.apply-outcome.ensures.on inv.0 inv.2 in
    let more : take (c.events.event-index + 1) c.args.events.now ≡ take c.events.event-index c.args.events.now ++ item ∷ [] =
    take_more c.args.events.now c.events.event-index item (omega arith) ∙ ap (λ (z : Event). take c.events.event-index c.args.events.now ++ z ∷ []) (sym c.event-item.is) in
    let push = log_push (take c.events.event-index c.args.events.now) c.events.results.items c.events.sessions c.opened.result inv.0 on.0 item c.apply-outcome.result on.1 on.2 inv.1 c.opened.ensures.is in
    record {
      few = omega (arith, c.events.invariant.few, c.opened.ensures.few);
      log = (
        inv.0 ++ on.0 ∷ [],
        subst (λ (xs : List Event). IsLogOf xs c.push.new.self.items (c.events.sessions + c.opened.result) (inv.0 ++ on.0 ∷ [])) (sym more)
            (subst (λ (xs : List (Result Happened EngineFault)). IsLogOf (take c.events.event-index c.args.events.now ++ item ∷ []) xs (c.events.sessions + c.opened.result) (inv.0 ++ on.0 ∷ [])) (sym c.in_ok-push.ensures.items) push),
        on.3,
      );
    }

pub sessions-init : goal.sessions-init
sessions-init g c =
    let inv = c.events.invariant.log in
    let all : take c.events.event-index c.args.events.now ≡ c.args.events.now = take_all c.events.event-index c.args.events.now c.events-test.false in
    record {
      count = ap (λ (xs : List (Vec ℕ)). length xs) c.new-outputs.ensures.items;
      log = (
        inv.0,
        subst (λ (xs : List Event). IsLogOf xs c.events.results.items c.events.sessions inv.0) all inv.1,
        inv.2,
        λ i output at. let none : slice_get {X = Vec ℕ} [] i ≡ Some output = ap (λ (xs : List (Vec ℕ)). slice_get xs i) (sym c.new-outputs.ensures.items) ∙ at in absurd (nothing_got i output none),
      );
    }
  where
    nothing_got : (i : ℕ) (output : Vec ℕ) → slice_get {X = Vec ℕ} [] i ≡ Some output → ⊥
    nothing_got i output e = cc

pub sessions-preserved : goal.sessions-preserved
sessions-preserved g c =
    let inv = c.sessions.invariant in
    let log = inv.log.0 in
    let v = c.in_ok-to_vec.field-0 in
    let unsent = (c.in-Some.ensures.some log inv.log.2).1 in
    let copied : v.items ≡ c.in-Some.output.now = c.in_ok-to_vec.ensures.items_if_clones_equal (λ x y e. e) in
    record {
      count = ap (λ (xs : List (Vec ℕ)). length xs) c.in_ok-push-2.ensures.items ∙ length-append c.sessions.outputs.items (v ∷ []) ∙ ap (λ (n : ℕ). n + 1) inv.count;
      log = (
        log,
        inv.log.1,
        inv.log.2,
        λ i output at.
            elim (get_push c.sessions.outputs.items i v output (ap (λ (xs : List (Vec ℕ)). slice_get xs i) (sym c.in_ok-push-2.ensures.items) ∙ at)) [
              | inl old ↦ inv.log.3 i output old
              | inr new ↦
                  let index : c.sessions.session ≡ i = sym inv.count ∙ sym new.0 in
                  let own : IsUnsent (of_session (c.sessions.session + 1) log).wrote (of_session (c.sessions.session + 1) log).sent v.items = subst (λ (bs : List ℕ). IsUnsent (of_session (c.sessions.session + 1) log).wrote (of_session (c.sessions.session + 1) log).sent bs) (sym copied) unsent in
                  subst (λ (n : ℕ). IsUnsent (of_session (n + 1) log).wrote (of_session (n + 1) log).sent output.items) index (subst (λ (z : Vec ℕ). IsUnsent (of_session (c.sessions.session + 1) log).wrote (of_session (c.sessions.session + 1) log).sent z.items) new.1 own)
            ],
      );
    }

pub unreachable-requires : goal.unreachable-requires
unreachable-requires g c =
    let inv = c.sessions.invariant.log in
    c.in_default.ensures.none inv.0 inv.2 (omega arith, omega (arith, inv.1.count, c.sessions-test.true))

pub returns : goal.returns
returns g c =
    let inv = c.sessions.invariant in
    let log = inv.log.0 in
    record {
      log = log;
      kept = g.met.E.Sftp.kept c.events.engine log inv.log.2;
      events_are = inv.log.1.events_are;
      results_are = inv.log.1.results_are;
      count = omega (arith, inv.count, inv.log.1.count, c.sessions-test.false, c.sessions.auto.session-end);
      each = inv.log.3;
    }
