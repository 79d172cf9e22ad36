-- A closed core: the calls of its history are those of the sessions that were cleared.
use Rattle.std.proofs.Common.{◌≡◌, ◌≢◌, ◌<◌, ◌+◌, ◌-◌, ◌++◌, ◌∷◌, [], ℕ, List, length, Option, Some, None, All, refl, sym, ap, ◌∙◌, subst, ⊎_elim, arith}
use Rattle.std.specs.Prelude.{slice_get, slice_set}
use Rattle.std.specs.List.{sum_by}
use Rattle.std.proofs.lemmas.List.Sums.{sum_by_push}
use Rattle.std.proofs.lemmas.List.Elements.{All-weaker}
use mathlib.Core.Logic.{dite}
use native.Mathlib.Decide.{ℕ_discrete}
use Rattle.sf_call.specs.declared.call.Call.{Call}
use Rattle.sf_call.specs.declared.record.Record.{Record}
use Rattle.sf_core.specs.Cores.{CoreView, LaneState, lane_state}
use Rattle.sf_core.specs.Cores.LaneState.{NoLane, Busy}
use Rattle.sf_audit.specs.Audits.{CallRecord, call_records}
use Rattle.sf_roll.proofs.Laws.{get_set, get_set_else}
use Rattle.sf_noted.specs.Pages.{BegunCall, Page, calls_under_way, page_calls}
use Rattle.sf_noted.specs.PageChanges.{other_state, cleared}
use Rattle.sf_noted.specs.Noted.{waits_in, noted_state, FitsPage, PagesAgree}
use Rattle.sf_noted.specs.Visits.{visit_calls, IsVisitIn, AreCallsOf, IsOnPage}
use Rattle.sf_noted.specs.Closing.{AreCleared}
use Rattle.sf_noted.proofs.Lists.{one_there, at_end, get_front, get_last, beyond, all_at, sum_set, sum_none}
use Rattle.sf_noted.proofs.Laws.{visit_is_in}

other_than : (s : LaneState BegunCall) → other_state s ≡ s → ⊥
other_than NoLane e = cc
other_than _ e = cc

no_call_in : (s : LaneState BegunCall) → calls_under_way (other_state s) ≡ 0
no_call_in NoLane = refl
no_call_in _ = refl

cleared_calls : (p : Page) → page_calls (cleared p) ≡ 0
cleared_calls p = let none = no_call_in p.state in omega arith

pub none_cleared : (pages : List Page) → AreCleared pages [] pages
none_cleared pages = record {
  counted = omega arith;
  kept = λ place none. refl;
  cleared_ones = λ i x at. cc;
  distinct = λ i j x y at at' same. cc;
}

-- one more page is cleared
pub clears : (pages now now' : List Page) (done : List (ℕ × Page)) (place : ℕ) (own : Page) → All (IsOnPage pages) done → IsOnPage pages (place + 1, own) → AreCleared pages done now → slice_get now place ≡ Some own → now' ≡ slice_set now place (cleared own)
    → AreCleared pages (done ++ (place + 1, own) ∷ []) now'
clears pages now now' done place own on_pages on_page a at set = subst (AreCleared pages (done ++ visit ∷ [])) (sym set) (record {
  counted =
      (let s = sum_set page_calls now place own (cleared own) at in
      let none = cleared_calls own in
      let more = sum_by_push (λ (x : ℕ × Page). page_calls x.1) done visit in
      let so_far = a.counted in
      omega arith);
  kept = λ k none. get_set_else now place k (cleared own) (λ e. none (length done) visit (get_last done visit) (ap (λ n. n + 1) (sym e))) ∙ a.kept k (λ i x there. none i x (get_front done (visit ∷ []) i x there));
  cleared_ones = λ i x there. ⊎_elim
      (λ old. get_set_else now place (x.0 - 1) (cleared own) (λ e. apart i x old (let above = (all_at (IsOnPage pages) done i x old on_pages).0 in omega arith)) ∙ a.cleared_ones i x old)
      (λ (new : (i ≡ length done) × (visit ≡ x)). subst (λ (y : ℕ × Page). slice_get (slice_set now place (cleared own)) (y.0 - 1) ≡ Some (cleared y.1)) new.1 (subst (λ k. slice_get (slice_set now place (cleared own)) k ≡ Some (cleared own)) (sym back) (get_set now place own (cleared own) at)))
      (at_end done visit x i there);
  distinct = λ i j x y there there' same. ⊎_elim
      (λ old. ⊎_elim
      (λ old'. a.distinct i j x y old old' same)
      (λ (new : (j ≡ length done) × (visit ≡ y)). absurd (apart i x old (same ∙ ap (λ (z : ℕ × Page). z.0) (sym new.1))))
      (at_end done visit y j there'))
      (λ (new : (i ≡ length done) × (visit ≡ x)). ⊎_elim
      (λ old'. absurd (apart j y old' (sym same ∙ ap (λ (z : ℕ × Page). z.0) (sym new.1))))
      (λ (new' : (j ≡ length done) × (visit ≡ y)). new.0 ∙ sym new'.0)
      (at_end done visit y j there'))
      (at_end done visit x i there);
})
  where
    visit : ℕ × Page
    visit = (place + 1, own)

    back : place + 1 - 1 ≡ place
    back = omega arith

    apart : (i : ℕ) (x : ℕ × Page) → slice_get done i ≡ Some x → x.0 ≡ place + 1 → ⊥
    apart i x there same =
        let here : x.0 - 1 ≡ place = omega arith in
        let was = subst (λ k. slice_get pages k ≡ Some x.1) here (all_at (IsOnPage pages) done i x there on_pages).1 in
        let mine = subst (λ k. slice_get pages k ≡ Some own) back on_page.1 in
        let one : x.1 ≡ own = one_there pages place x.1 own was mine in
        let gone = subst (λ k. slice_get now k ≡ Some (cleared x.1)) here (a.cleared_ones i x there) in
        let two : cleared x.1 ≡ own = one_there now place (cleared x.1) own gone at in
        other_than x.1.state (ap (λ (p : Page). p.state) (two ∙ sym one))

-- ---- a session whose page has no calls
no_told : (l : List CallRecord) → length l ≡ 0 → l ≡ []
no_told [] e = refl
no_told (x ∷ xs) e = absurd (omega arith)

none_waits : (l : LaneState Call) (state : LaneState BegunCall) → noted_state l ≡ state → calls_under_way state ≡ 0 → waits_in l ≡ []
none_waits (Busy c) state e none =
    let one : calls_under_way state ≡ 1 = ap calls_under_way (sym e) in
    absurd (omega arith)
none_waits _ state e none = refl

no_calls : (v : CoreView) (h : List Record) (s : ℕ) (p : Page) → FitsPage v h s p → page_calls p ≡ 0 → call_records s h ≡ []
no_calls v h s p f none =
    let told : length p.told ≡ 0 = omega arith in
    let under_way : calls_under_way p.state ≡ 0 = omega arith in
    f.told ∙ (λ i. no_told p.told told i ++ none_waits (lane_state v s) p.state f.state under_way i)

pub closed : (v : CoreView) (pages : List Page) (h : List Record) → PagesAgree v pages h → (visits : List (ℕ × Page)) → All (IsOnPage pages) visits → visit_calls visits ≡ v.drawn → (now : List Page) → AreCleared pages visits now → AreCallsOf h visits
closed v pages h agree visits on_pages all now cleared_all = record {
  each = All-weaker (IsOnPage pages) (IsVisitIn h) (λ x on. visit_is_in v pages h agree x.0 x.1 on.0 on.1) visits on_pages;
  others = λ s none. dite (ℕ_discrete s 0)
      (λ same. subst (λ k. call_records k h ≡ []) (sym same) (no_calls v h 0 agree.nobody.0 agree.nobody.1 agree.nobody.2))
      (λ above. by_page s above none (slice_get pages (s - 1)) refl);
  distinct = cleared_all.distinct;
}
  where
    nothing_left : sum_by page_calls now ≡ 0
    nothing_left = let c = cleared_all.counted in let d = agree.calls in omega arith

    by_page : (s : ℕ) → s ≢ 0 → All (λ (x : ℕ × Page). x.0 ≢ s) visits → (o : Option Page) → slice_get pages (s - 1) ≡ o → call_records s h ≡ []
    by_page s above none None at =
        let past = beyond pages (s - 1) at in
        let joins = agree.joins in
        let positive : 0 < s = omega arith in
        agree.later s (omega arith)
    by_page s above none (Some p) at =
        let positive : 0 < s = omega arith in
        let here : s - 1 + 1 ≡ s = omega arith in
        let kept = cleared_all.kept (s - 1) (λ i x there e. all_at (λ (y : ℕ × Page). y.0 ≢ s) visits i x there none (e ∙ here)) in
        let calls = sum_none page_calls now (s - 1) p nothing_left (kept ∙ at) in
        no_calls v h s p (subst (λ k. FitsPage v h k p) here (agree.each (s - 1) p at)) calls
