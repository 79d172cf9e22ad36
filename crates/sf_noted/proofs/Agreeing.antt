-- Each event keeps a core and its pages in agreement.
use Rattle.std.proofs.Common.{◌≡◌, ◌≢◌, ◌<◌, ◌+◌, ℕ, List, [], ◌∷◌, ◌++◌, length, Some, refl, sym, ap, ◌∙◌, subst, inl, inr, ⊎_elim, arith, append-nil, length-append}
use Rattle.std.specs.Prelude.{slice_get, slice_set, Option, None, is_none}
use Rattle.std.specs.Ordering.{nat_cmp}
use Rattle.std.specs.BTreeMap.{is_at}
use Rattle.std.proofs.lemmas.List.Sums.{sum_by_push}
use Rattle.std.proofs.lemmas.Map.Entries.{place_from_lookup}
use Rattle.sf_reply.specs.declared.reply.Reply.{Reply}
use Rattle.sf_call.specs.declared.call.Call.{Call}
use mathlib.Core.Logic.{dite}
use native.Mathlib.Decide.{ℕ_discrete}
use Rattle.sf_call.specs.declared.request.Request.{Request}
use Rattle.sf_call.specs.declared.record.Record.{Record}
use Rattle.sf_call.specs.declared.record.Record.TheVariants.{Left}
use Rattle.sf_call.specs.Histories.{IsAmong}
use Rattle.sf_core.specs.declared.step.Step.{Step}
use Rattle.sf_core.specs.declared.step.Step.TheVariants.{Moved, Blocked, Answered, Stranger}
use Rattle.sf_core.specs.Lanes.{LaneView}
use Rattle.sf_core.specs.Cores.{CoreView, LaneState, lane_state, call_at}
use Rattle.sf_core.specs.Cores.LaneState.{NoLane, Idle, Busy}
use Rattle.sf_core.specs.Progress.{new_call, waiting_reply}
use Rattle.sf_core.specs.Histories.{IsHistory}
use Rattle.sf_core.specs.Owners.{OwnsCalls}
use Rattle.sf_core.specs.Events.{Before, After, Fetches, Decides, Joins, CallBegins, SessionLeaves, TakesStep}
use Rattle.sf_audit.specs.Audits.{call_records}
use Rattle.sf_roll.proofs.Laws.{get_set, get_set_else}
use Rattle.sf_noted.specs.Pages.{begun_call, Page, calls_under_way, page_calls}
use Rattle.sf_noted.specs.PageChanges.{page, fresh_page}
use Rattle.sf_noted.specs.Seen.{HasSeen}
use Rattle.sf_noted.specs.Noted.{waiting_for, waits_in, noted_state, FitsPage, PagesAgree}
use Rattle.sf_noted.proofs.Lists.{within, one_there, at_end, length_set, sum_set, some_kept}
use Rattle.sf_noted.proofs.Records.{records_append}
use Rattle.sf_noted.proofs.Keeping.{others_step, idle_of}

-- one session's page is another, and those of all others fit as they did
sets : (v w : CoreView) (pages : List Page) (h h' : List Record) → PagesAgree v pages h → IsHistory w h' → w.joins ≡ v.joins → (place : ℕ) (p p' : Page) → slice_get pages place ≡ Some p → FitsPage w h' (place + 1) p'
    → ((s : ℕ) → s ≢ place + 1 → (q : Page) → FitsPage v h s q → FitsPage w h' s q) → ((s : ℕ) → v.joins < s → call_records s h' ≡ []) → page_calls p' + v.drawn ≡ page_calls p + w.drawn
    → PagesAgree w (slice_set pages place p') h'
sets v w pages h h' a hist joins place p p' at fits others later count = record {
  history = hist;
  joins = length_set pages place p' ∙ (a.joins ∙ sym joins);
  each = λ u q e. dite (ℕ_discrete u place)
      (λ same.
      let is = one_there (slice_set pages place p') place p' q (get_set pages place p p' at) (subst (λ k. slice_get (slice_set pages place p') k ≡ Some q) same e) in
      subst (λ (y : ℕ × Page). FitsPage w h' y.0 y.1) (λ i. (ap (λ k. k + 1) (sym same) i, is i)) fits)
      (λ apart. others (u + 1) (λ e'. apart (omega arith)) q (a.each u q (sym (get_set_else pages place u p' apart) ∙ e)));
  later = λ s less. later s (subst (λ j. j < s) joins less);
  nobody = (a.nobody.0, others 0 (λ e. omega arith) a.nobody.0 a.nobody.1, a.nobody.2);
  calls = (let s = sum_set page_calls pages place p p' at in let c = a.calls in omega arith);
}

fit_kept : (v w : CoreView) (h : List Record) (s : ℕ) (p : Page) → lane_state w s ≡ lane_state v s → FitsPage v h s p → FitsPage w h s p
fit_kept v w h s p same f = record { state = ap noted_state same ∙ f.state; told = f.told ∙ ap (λ l. p.told ++ waits_in l) (sym same) }

-- ---- a session joins
pub joins : (v w : CoreView) (pages : List Page) (h : List Record) → PagesAgree v pages h → IsHistory w h → Joins v w → PagesAgree w (pages ++ fresh_page ∷ []) h
joins v w pages h a hist j =
    let len = a.joins in
    let more = j.joins in
    record {
      history = hist;
      joins = omega (arith, length-append pages (fresh_page ∷ []));
      each = λ u q e. ⊎_elim
          (λ old.
          let n = within pages u q old in
          fit_kept v w h (u + 1) q (j.others (u + 1) (λ same. omega arith)) (a.each u q old))
          (λ (new : (u ≡ length pages) × (fresh_page ≡ q)).
          let is : u + 1 ≡ v.joins + 1 = ap (λ k. k + 1) (new.0 ∙ len) in
          let idle : lane_state w (u + 1) ≡ Idle = ap (lane_state w) is ∙ j.own in
          let none : call_records (u + 1) h ≡ [] = a.later (u + 1) (let e = is in omega arith) in
          subst (FitsPage w h (u + 1)) new.1 (record { state = ap noted_state idle; told = none ∙ ap waits_in (sym idle) }))
          (at_end pages fresh_page q u e);
      later = λ s less. a.later s (omega arith);
      nobody = (a.nobody.0, fit_kept v w h 0 a.nobody.0 (j.others 0 (λ same. omega arith)) a.nobody.1, a.nobody.2);
      calls = (let s = sum_by_push page_calls pages fresh_page in let none : page_calls fresh_page ≡ 0 = refl in let c = a.calls in let d = j.drawn in omega arith);
    }

-- ---- a call begins
pub idle_there : (v : CoreView) (pages : List Page) (h : List Record) → PagesAgree v pages h → (place : ℕ) (p : Page) → slice_get pages place ≡ Some p → p.state ≡ Idle → lane_state v (place + 1) ≡ Idle
idle_there v pages h a place p at rests = idle_of (lane_state v (place + 1)) ((a.each place p at).state ∙ rests)

pub begins : (v w : CoreView) (lane : LaneView) (request : Request) (moment : ℕ) (pages : List Page) (h : List Record) → PagesAgree v pages h → IsHistory w h → CallBegins v w lane request moment
    → (place : ℕ) (p : Page) → slice_get pages place ≡ Some p → lane.session ≡ place + 1 → p.state ≡ Idle → (number : ℕ) → number ≡ w.drawn
    → PagesAgree w (slice_set pages place (page (Busy (begun_call number moment request)) p.told)) h
begins v w lane request moment pages h a hist b place p at is rests number drawn =
    let idle = idle_there v pages h a place p at rests in
    let c = new_call (v.drawn + 1) lane.session moment request in
    let own : lane_state w (place + 1) ≡ Busy c = ap (lane_state w) (sym is) ∙ b.own in
    let f = a.each place p at in
    sets v w pages h h a hist b.joins place p (page (Busy (begun_call number moment request)) p.told) at
    (record {
      state = ap noted_state own ∙ ap (λ n. Busy (begun_call n moment request)) (sym (drawn ∙ b.drawn));
      told = f.told ∙ (ap (λ l. p.told ++ waits_in l) idle ∙ ap (λ l. p.told ++ l) (sym (ap waits_in own ∙ ap (waiting_for c) b.fresh.0)));
    })
    (λ s apart q g. fit_kept v w h s q (b.others s (λ e. apart (e ∙ is))) g)
    (λ s less. a.later s less)
    (let was : page_calls p ≡ length p.told + 0 = ap (λ x. length p.told + calls_under_way x) rests in
    let now : page_calls (page (Busy (begun_call number moment request)) p.told) ≡ length p.told + 1 = refl in
    let d = b.drawn in omega arith)

-- ---- a step
pub joins_stay : (b : Before) (made : Step) (a : After) → TakesStep b made a → (a.core.joins ≡ b.core.joins) × (a.core.drawn ≡ b.core.drawn)
joins_stay b Moved a (inl x) = (x.0.2.slot.joins, x.0.2.slot.drawn)
joins_stay b Moved a (inr (inl x)) = (x.3.slot.joins, x.3.slot.drawn)
joins_stay b Moved a (inr (inr x)) = (x.0.2.slot.joins, x.0.2.slot.drawn)
joins_stay b (Blocked holder) a x = (x.0.1.looks.joins, x.0.1.looks.drawn)
joins_stay b (Answered given) a x = ⊎_elim
    (λ (y : Fetches b a x.0.0 given.reply). (y.slot.joins, y.slot.drawn))
    (λ (y : Decides b a x.0.0 given.reply). (y.joins, y.drawn))
    x.0.1
joins_stay b Stranger a x = (ap (λ (v : CoreView). v.joins) x.1, ap (λ (v : CoreView). v.drawn) x.1)

pub steps : (b : Before) (made : Step) (a : After) (pages : List Page) → TakesStep b made a → OwnsCalls b.core → OwnsCalls a.core → IsHistory a.core (b.history ++ a.added) → PagesAgree b.core pages b.history
    → (place : ℕ) (p p' : Page) → slice_get pages place ≡ Some p → b.lane.session ≡ place + 1 → FitsPage a.core (b.history ++ a.added) b.lane.session p' → page_calls p' ≡ page_calls p → PagesAgree a.core (slice_set pages place p') (b.history ++ a.added)
steps b made a pages takes before after hist agrees place p p' at is fits count =
    let stay = joins_stay b made a takes in
    let len = agrees.joins in
    let n = within pages place p at in
    sets b.core a.core pages b.history (b.history ++ a.added) agrees hist stay.0 place p p' at (subst (λ s. FitsPage a.core (b.history ++ a.added) s p') is fits)
    (λ s apart q f. others_step b made a takes before after hist s (λ e. apart (e ∙ is)) q f)
    (λ s less.
    let apart : s ≢ b.lane.session = λ e. let e' = e ∙ is in omega arith in
    let gone : lane_state b.core s ≡ NoLane = before.later s less in
    let f = others_step b made a takes before after hist s apart (page NoLane []) (record { state = ap noted_state gone; told = agrees.later s less ∙ ap waits_in (sym gone) }) in
    f.told ∙ ap waits_in (after.later s (subst (λ j. j < s) (sym stay.0) less)))
    (let d = stay.1 in omega arith)

-- what fits a session goes on to, after a step that doesn't answer
fits_on : (b : Before) (made : Step) (a : After) → TakesStep b made a → OwnsCalls b.core → OwnsCalls a.core → IsHistory a.core (b.history ++ a.added) → ((p : Page) → FitsPage b.core b.history b.lane.session p → FitsPage a.core (b.history ++ a.added) b.lane.session p)
    → (s : ℕ) (p : Page) → FitsPage b.core b.history s p → FitsPage a.core (b.history ++ a.added) s p
fits_on b made a takes before after hist own s p f =
    dite (ℕ_discrete s b.lane.session)
    (λ same. subst (λ k. FitsPage a.core (b.history ++ a.added) k p) (sym same) (own p (subst (λ k. FitsPage b.core b.history k p) same f)))
    (λ apart. others_step b made a takes before after hist s apart p f)

pub step_goes : (b : Before) (made : Step) (a : After) (pages : List Page) → TakesStep b made a → OwnsCalls b.core → OwnsCalls a.core → IsHistory a.core (b.history ++ a.added) → PagesAgree b.core pages b.history
    → ((p : Page) → FitsPage b.core b.history b.lane.session p → FitsPage a.core (b.history ++ a.added) b.lane.session p) → PagesAgree a.core pages (b.history ++ a.added)
step_goes b made a pages takes before after hist agrees own =
    let stay = joins_stay b made a takes in
    let on = fits_on b made a takes before after hist own in
    record {
      history = hist;
      joins = agrees.joins ∙ sym stay.0;
      each = λ u q e. on (u + 1) q (agrees.each u q e);
      later = λ s less.
          let gone : lane_state b.core s ≡ NoLane = before.later s (subst (λ j. j < s) stay.0 less) in
          let f = on s (page NoLane []) (record { state = ap noted_state gone; told = agrees.later s (subst (λ j. j < s) stay.0 less) ∙ ap waits_in (sym gone) }) in
          f.told ∙ ap waits_in (after.later s less);
      nobody = (agrees.nobody.0, on 0 agrees.nobody.0 agrees.nobody.1, agrees.nobody.2);
      calls = agrees.calls ∙ sym stay.1;
    }

-- ---- a session leaves
pub leaves : (v w : CoreView) (session : ℕ) (pages : List Page) (h : List Record) → PagesAgree v pages h → IsHistory w (h ++ Left session ∷ []) → SessionLeaves v w session → (place : ℕ) (p : Page) → slice_get pages place ≡ Some p → session ≡ place + 1 → p.state ≡ Idle
    → PagesAgree w (slice_set pages place (page NoLane p.told)) (h ++ Left session ∷ [])
leaves v w session pages h a hist l place p at is rests =
    let idle = idle_there v pages h a place p at rests in
    let gone : lane_state w (place + 1) ≡ NoLane = ap (lane_state w) (sym is) ∙ l.own in
    let same : (s : ℕ) → call_records s (h ++ Left session ∷ []) ≡ call_records s h = λ s. records_append s h (Left session ∷ []) ∙ append-nil (call_records s h) in
    let f = a.each place p at in
    sets v w pages h (h ++ Left session ∷ []) a hist l.joins place p (page NoLane p.told) at
    (record { state = ap noted_state gone; told = same (place + 1) ∙ (f.told ∙ (ap (λ x. p.told ++ waits_in x) idle ∙ ap (λ x. p.told ++ waits_in x) (sym gone))) })
    (λ s apart q g.
    let k = fit_kept v w h s q (l.others s (λ e. apart (e ∙ is))) g in
    record { state = k.state; told = same s ∙ k.told })
    (λ s less. same s ∙ a.later s less)
    (let was : page_calls p ≡ length p.told + 0 = ap (λ x. length p.told + calls_under_way x) rests in
    let now : page_calls (page NoLane p.told) ≡ length p.told + 0 = refl in
    let d = l.drawn in omega arith)

-- ---- the beginning
-- a core that no session has joined
no_call_yet : (v : CoreView) → IsHistory v [] → v.drawn ≡ 0 → (c : Call) → call_at v.calls c.number ≡ Some c → (reply : Option Reply) → waiting_reply c ≡ reply → ⊥
unfolding IsAmong
no_call_yet v hist drawn c at (Some given) e = hist.decided c.number c given at e
no_call_yet v hist drawn c at None e =
    let there = place_from_lookup (is_at (nat_cmp c.number)) v.calls c at in
    let one = some_kept (λ (x : ℕ × Call). is_none (waiting_reply x.1)) v.calls there.0 (there.1, c) there.2 (ap is_none e) in
    let counted = hist.counted in
    omega arith

nobody_joined : (v : CoreView) → IsHistory v [] → v.drawn ≡ 0 → OwnsCalls v → (l : LaneState Call) → lane_state v 0 ≡ l → (p : Page) × FitsPage v [] 0 p × (page_calls p ≡ 0)
nobody_joined v hist drawn owns NoLane e = (page NoLane [], record { state = ap noted_state e; told = ap waits_in (sym e) }, refl)
nobody_joined v hist drawn owns Idle e = (page Idle [], record { state = ap noted_state e; told = ap waits_in (sym e) }, refl)
nobody_joined v hist drawn owns (Busy c) e = absurd (no_call_yet v hist drawn c (owns.number 0 c e) (waiting_reply c) refl)

pub begins_noted : (v : CoreView) → IsHistory v [] → v.joins ≡ 0 → v.drawn ≡ 0 → OwnsCalls v → PagesAgree v [] []
begins_noted v hist joins drawn owns = record {
  history = hist;
  joins = sym joins;
  each = λ u q e. cc;
  later = λ s less. refl;
  nobody = nobody_joined v hist drawn owns (lane_state v 0) refl;
  calls = sym drawn;
}

-- ---- what a token has
-- the calls of a session at rest are those whose replies it received
pub told_at_rest : (v : CoreView) (h : List Record) (s : ℕ) (p : Page) → FitsPage v h s p → p.state ≡ Idle → call_records s h ≡ p.told
told_at_rest v h s p f rests = f.told ∙ (ap (λ l. p.told ++ waits_in l) (idle_of (lane_state v s) (f.state ∙ rests)) ∙ append-nil p.told)

-- so they are in the whole history
pub seen_at_rest : (v : CoreView) (pages : List Page) (h : List Record) → PagesAgree v pages h → (place : ℕ) (p : Page) → slice_get pages place ≡ Some p → p.state ≡ Idle → (session : ℕ) → session ≡ place + 1 → (seen : List Record) → seen ≡ h → (x : ℕ × Page) → (session, p) ≡ x → HasSeen seen x
seen_at_rest v pages h a place p at rests session is seen whole x view =
    subst (λ (y : ℕ × Page). HasSeen seen y) view (ap (call_records session) whole ∙ (ap (λ s. call_records s h) is ∙ told_at_rest v h (place + 1) p (a.each place p at) rests))
