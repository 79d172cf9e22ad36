-- There are at most as many rounds as the running calls have steps.
use Rattle.sf_engine.proofs.Short.{most_is}
use Rattle.std.proofs.Common.{◌≡◌, ℕ, zero, suc, ◌+◌, ◌<◌, ◌≤◌, ◌⊎◌, List, [], ◌∷◌, ◌++◌, Some, Bool, true, false, length, slice_get, refl, ap, sym, ◌∙◌, subst, arith, inl, inr, append-nil, add-one}
use Rattle.std.specs.List.{sum_by, AllZip}
use Rattle.std.proofs.lemmas.List.Sums.{sum_by-append}
use Rattle.sf_reply.specs.declared.reply.Reply.{Reply}
use Rattle.sf_call.specs.declared.request.Request.{Request}
use Rattle.sf_call.specs.declared.call.Call.{Call}
use Rattle.sf_session.specs.declared.asking.Ask.{Ask}
use Rattle.sf_session.specs.declared.asking.Ask.TheVariants as ask
use Rattle.sf_session.specs.Responses.{Due, Unrecorded, Recorded, asked_due}
use Rattle.sf_core.specs.Cores.{lane_state}
use Rattle.sf_core.specs.Progress.{left_of, bound_of}
use Rattle.sf_core.specs.Stuck.{steps_left_in, left_below}
use Rattle.sf_core.proofs.Laws.{busy_left, idle_left, gone_left}
use Rattle.sf_engine.specs.declared.hosted.HostedSession.{HostedSession}
use Rattle.sf_engine.specs.declared.hosted.HostedState.{HostedState}
use Rattle.sf_engine.specs.declared.hosted.HostedState.TheVariants as state
use Rattle.sf_engine.specs.Views.{EngineView}
use Rattle.sf_engine.specs.Promise.{Entry, of_session, phase, is_running, under_way_to, under_way, IsDueTo, most_steps}
use Rattle.sf_engine.specs.HasLog.{replied, HasLog, left_to, IsWithinBounds}
use Rattle.sf_engine.proofs.Base.{get_within, zip_push}
use Rattle.sf_engine.proofs.SessionEvents.{host, placed_at, due_asks}
use Rattle.sf_engine.proofs.Rounds.{walking_at, one_more}

-- the calls of the sessions up to a number
record BoundTo (e : EngineView) (log : List Entry) (k : ℕ) : Type 0 where
  requests : List Request
  are : AllZip (IsDueTo log) (under_way_to log k) requests
  few : left_below e.core (suc k) ≤ sum_by most_steps requests

module _ (e : EngineView) (log : List Entry) (h : HasLog e log) (k : ℕ) (b : BoundTo e log k) (p : HostedSession) (stood : slice_get e.hosted k ≡ Some p) where
  num : k + 1 ≡ suc k
  num = add-one k

  same_slot : steps_left_in (lane_state e.core (k + 1)) ≡ steps_left_in (lane_state e.core (suc k))
  same_slot = ap (λ (n : ℕ). steps_left_in (lane_state e.core n)) num

  -- its call is not running, and no step is left to it
  bound_stays : is_running (phase (of_session (k + 1) log)) ≡ false → steps_left_in (lane_state e.core (k + 1)) ≡ 0 → BoundTo e log (suc k)
  bound_stays rests none =
      let list : under_way_to log (suc k) ≡ under_way_to log k = sym (ap (under_way_to log) num) ∙ one_more log k false rests ∙ append-nil (under_way_to log k) in
      let few = b.few in
      let same = same_slot in
      record { requests = b.requests; are = subst (λ (z : List ℕ). AllZip (IsDueTo log) z b.requests) (sym list) b.are; few = omega (arith, few, none, same) }

  bound_on : (o : HostedState) → p.place ≡ o → BoundTo e log (suc k)
  bound_on (state.Resting lane) placed = bound_stays (walking_at e log h k p stood (state.Resting lane) placed) (idle_left e.core (k + 1) (placed_at e log h k p stood (state.Resting lane) placed).0.slot)
  bound_on (state.Decided lane given) placed = bound_stays (walking_at e log h k p stood (state.Decided lane given) placed) (idle_left e.core (k + 1) (placed_at e log h k p stood (state.Decided lane given) placed).slot)
  bound_on (state.Gone c) placed = bound_stays (walking_at e log h k p stood (state.Gone c) placed) (gone_left e.core (k + 1) (placed_at e log h k p stood (state.Gone c) placed).slot)
  bound_on (state.UnderWay lane) placed =
      let r = placed_at e log h k p stood (state.UnderWay lane) placed in
      let list : under_way_to log (suc k) ≡ under_way_to log k ++ (k + 1) ∷ [] = sym (ap (under_way_to log) num) ∙ one_more log k true (walking_at e log h k p stood (state.UnderWay lane) placed) in
      let left = busy_left e.core (k + 1) r.call r.slot in
      let most = r.few in
      let few = b.few in
      let same = same_slot in
      let sum = sum_by-append most_steps b.requests (r.call.request ∷ []) in
      let steps = most_is r.call.request in
      record {
        requests = b.requests ++ r.call.request ∷ [];
        are = subst (λ (z : List ℕ). AllZip (IsDueTo log) z (b.requests ++ r.call.request ∷ [])) (sym list) (zip_push (IsDueTo log) (under_way_to log k) b.requests (k + 1) r.call.request b.are (let a = (host e log h k p stood).answered in (a, r.id, due_asks r.id r.call a.due r.due)));
        few = omega (arith, left, most, few, same, sum, steps);
      }

bound_to : (e : EngineView) (log : List Entry) → HasLog e log → (k : ℕ) → k ≤ length e.hosted → BoundTo e log k
bound_to e log h zero le = let none = gone_left e.core 0 h.zero in record { requests = []; are = tt; few = omega (arith, none) }
bound_to e log h (suc k) le =
    let p = get_within e.hosted k (omega (arith, le)) in
    bound_on e log h k (bound_to e log h k (omega (arith, le))) p.0 p.1 p.0.place refl

pub within_bounds : (n : ℕ) (e : EngineView) → n ≤ left_to e → IsWithinBounds n e
within_bounds n e le log h =
    let b = bound_to e log h (length e.hosted) (omega arith) in
    let few = b.few in
    let same = ap (λ (k : ℕ). left_below e.core k) (add-one (length e.hosted)) in
    (b.requests, subst (λ (k : ℕ). AllZip (IsDueTo log) (under_way_to log k) b.requests) h.count b.are, omega (arith, le, few, same))
