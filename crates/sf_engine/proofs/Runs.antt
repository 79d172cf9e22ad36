-- A new engine's log, many turns, and a session's output.
use Rattle.std.proofs.Common.{◌≡◌, ℕ, zero, suc, ◌+◌, ◌<◌, List, [], ◌∷◌, ◌++◌, Option, Some, Bool, true, Result, Ok, Err, IsSome, length, map, slice_get, slice_set, refl, ap, sym, ◌∙◌, subst, arith, inl, inr, append-nil, append_assoc, length-append}
use Rattle.std.specs.List.{sum_by, AllByRecursion}
use Rattle.std.proofs.lemmas.List.{map-append}
use Rattle.std.proofs.lemmas.List.Sums.{sum_by-append}
use Rattle.std.proofs.lemmas.Option.{slice_get_within}
use Rattle.sf_call.specs.Histories.{IsLegal, IsLegalAfter}
use Rattle.sf_inode.specs.Stores.{StoreState}
use Rattle.sf_core.specs.Cores.LaneState.{NoLane}
use Rattle.sf_core.specs.Cores.{CoreView, new_core, lane_state}
use Rattle.sf_core.specs.Histories.{IsHistory}
use Rattle.sf_engine.specs.declared.event.Event.{Event}
use Rattle.sf_engine.specs.declared.event.Event.TheVariants as event
use Rattle.sf_engine.specs.declared.event.Happened.{Happened}
use Rattle.sf_engine.specs.declared.event.EngineFault.{EngineFault}
use Rattle.sf_engine.specs.declared.hosted.HostedSession.{HostedSession}
use Rattle.sf_engine.specs.Promise.{continues, refusals}
use Rattle.sf_engine.specs.Turns.{Stand, finding, TurnsGive}
use Rattle.sf_engine.specs.Views.{EngineView}
use Rattle.sf_engine.specs.Promise.{Entry, event_of, result_of, linearization, opened_in, of_session, IsKnown, IsPending, calls_by, IsLawful, IsUnsent, IsKept, AreTurnsOf}
use Rattle.sf_engine.specs.HasLog.{HasLog, AppendsEntry, ShowsOutput}
use Rattle.sf_engine.proofs.SessionEvents.{host, known}
use Rattle.sf_engine.proofs.EventSteps.{any_turn_log}
use Rattle.sf_engine.proofs.Appending.{none_before}
use Rattle.sf_engine.proofs.Base.{HostedChange, engine, hosted_session, number, changed, stand_before, stand_after, get_set_same, set_twice}
use Rattle.sf_call.specs.declared.record.Record.{Record}
use Rattle.sf_session.specs.Responses.{RepliedCall, recorded_in}
use Rattle.sf_engine.specs.declared.hosted.HostedState.{HostedState}
use Rattle.sf_engine.specs.declared.hosted.HostedState.TheVariants as state
use Rattle.sf_engine.specs.Turns.{stand, IsHostedState, IsReady, is_busy}
use Rattle.sf_engine.specs.Promise.{SessionLog}
use Rattle.sf_engine.specs.HasLog.{IsEngine, Hosts, IsAtPlace, seat}
use Rattle.sf_engine.proofs.Base.{is_some_by}

-- ---- a new engine

new_slots : (keep : Option ℕ) (store : StoreState) (s : ℕ) → lane_state (new_core keep store) s ≡ NoLane
new_slots keep store zero = refl
new_slots keep store (suc s) = refl

nothing_kept : IsKept []
unfolding IsLegal IsLegalAfter
nothing_kept = record {
  linearizable = record {
    legal = tt;
    pending = λ front back e same. no_entry (λ (xs : List Entry) (x : Entry). AllByRecursion (IsPending xs) (calls_by x)) front back e same;
    answered = λ front back same s known.
        let known' : IsKnown [] s = subst (λ (xs : List Entry). IsKnown xs s) (none_before front back same) known in absurd (omega (arith, known'.0, known'.1));
  };
  lawful = no_entry IsLawful;
}
  where
    no_entry : (P : List Entry → Entry → Type 0) (front back : List Entry) (e : Entry) → [] ≡ front ++ e ∷ back → P front e
    no_entry P [] back e h = cc
    no_entry P _ back e h = cc

pub first_log : (keep : Option ℕ) (store : StoreState) → IsHistory (new_core keep store) [] → HasLog (engine (new_core keep store) []) []
first_log keep store history = record {
  history = history;
  kept = nothing_kept;
  begun = refl;
  opened = refl;
  here = refl;
  count = refl;
  each = λ i p h. cc;
  nobody = λ s some out. record { slot = new_slots keep store s; none = refl; recorded = refl };
  zero = refl;
  present = refl;
  blocked = tt;
}

-- ---- many turns

turn_entry : (s m : ℕ) (h : Happened) (r : Result Happened EngineFault) (x : Entry) (entries : List Entry) → event_of x ≡ event.Turn s m → result_of x ≡ Ok h → continues (Ok h) ≡ true → AreTurnsOf s m r entries → AreTurnsOf s m r (x ∷ entries)
turn_entry s m h r x entries ev is goes are = (x ∷ are.0, are.1, ap (λ (xs : List Entry). x ∷ xs) are.2, ((ev, ap continues is ∙ goes), are.3), are.4, are.5)

pub last_turn : (s m : ℕ) (r : Result Happened EngineFault) (x : Entry) → event_of x ≡ event.Turn s m → result_of x ≡ r → AreTurnsOf s m r (x ∷ [])
last_turn s m r x ev is = ([], x, refl, tt, ev, is)

-- the entries of `n` turns after which the call goes on, and of a last one
pub record TurnsMade (s : HostedChange) (m : ℕ) (r : Result Happened EngineFault) (n : ℕ) (log : List Entry) : Type 0 where
  pub entries : List Entry
  pub are : AreTurnsOf s.session m r entries
  pub count : length entries ≡ n + 1
  pub has : HasLog (changed s) (log ++ entries)

pub turns_log : (n : ℕ) (s : HostedChange) (m : ℕ) (r : Result Happened EngineFault) → s.now.closed ≡ s.was.closed → TurnsGive n (stand_before s) (finding s.was.closed m) r (stand_after s)
    → (log : List Entry) → HasLog s.old log → TurnsMade s m r n log
unfolding TurnsGive
turns_log zero s m (Ok r) closed give log h =
    let it = any_turn_log s m (Ok r) (record { ok = give; closed = closed; err = tt; fault = tt }) log h in
    record { entries = it.0 ∷ []; are = last_turn s.session m (Ok r) it.0 it.1 it.2; count = refl; has = it.3 }
turns_log zero s m (Err f) closed give log h =
    let core : s.core ≡ s.old.core = ap (λ (z : Stand). z.core) give.0 in
    let same : s.now ≡ s.was = ap (λ (z : Stand). hosted_session z.session z.place s.now.closed) give.0 ∙ ap (λ (b : Bool). hosted_session s.was.session s.was.place b) closed in
    let it = any_turn_log s m (Err f) (record { ok = tt; closed = closed; err = (core, same); fault = (give.1, give.2) }) log h in
    record { entries = it.0 ∷ []; are = last_turn s.session m (Err f) it.0 it.1 it.2; count = refl; has = it.3 }
turns_log (suc n) s m r closed give log h =
    let mid : Stand = give.1 in
    let hosted = s.old.hosted in
    let between : HostedSession = hosted_session mid.session mid.place s.was.closed in
    let first : HostedChange = record s { core = mid.core; now = between } in
    let others : HostedChange = record { old = changed first; at = s.at; session = s.session; was = between; core = s.core; now = s.now; number = s.number; stood = get_set_same hosted s.at s.was between s.stood } in
    let it = any_turn_log first m (Ok give.0) (record { ok = give.3; closed = refl; err = tt; fault = tt }) log h in
    let rest = turns_log n others m r closed give.4 (log ++ it.0 ∷ []) it.3 in
    let once : slice_set (slice_set hosted s.at between) s.at s.now ≡ slice_set hosted s.at s.now = set_twice hosted s.at between s.now in
    let count = rest.count in
    record {
      entries = it.0 ∷ rest.entries;
      are = turn_entry s.session m give.0 r it.0 rest.entries it.1 it.2 give.2 rest.are;
      count = omega (arith, count);
      has = subst (λ (z : List HostedSession). HasLog (engine s.core z) (log ++ it.0 ∷ rest.entries)) once (subst (λ (z : List Entry). HasLog (changed others) z) (append_assoc log (it.0 ∷ []) rest.entries) rest.has);
    }

-- ---- output

pub sends_log : (e : EngineView) (at s : ℕ) (p : HostedSession) → at + 1 ≡ s → slice_get e.hosted at ≡ Some p → ShowsOutput e s p.session.output
sends_log e at s p num stood = subst (λ (n : ℕ). ShowsOutput e n p.session.output) num (λ log h. (known e log h at p stood, (host e log h at p stood).output))

-- ---- an engine stays one

pub stays_engine : (old : EngineView) (ev : Event) (r : Result Happened EngineFault) (new : EngineView) → AppendsEntry old ev r new → IsEngine old.core old.hosted → IsEngine new.core new.hosted
stays_engine old ev r new goes is = let it = goes is.0 is.1 in (is.0 ++ it.0 ∷ [], it.3)

pub turns_stay : (n : ℕ) (s : HostedChange) (m : ℕ) (r : Result Happened EngineFault) → s.now.closed ≡ s.was.closed → TurnsGive n (stand_before s) (finding s.was.closed m) r (stand_after s) → IsEngine s.old.core s.old.hosted → IsEngine s.core (slice_set s.old.hosted s.at s.now)
turns_stay n s m r closed give is = let it = turns_log n s m r closed give is.0 is.1 in (is.0 ++ it.entries, it.has)

-- the conditions for a turn and for closing
placed_by : (v : CoreView) (hist : List Record) (s : ℕ) (p : HostedSession) (t : SessionLog) (r : List RepliedCall) (h : Hosts t r (lane_state v s) s p) → IsHistory v hist → (o : HostedState) → IsAtPlace o p.closed (seat (lane_state v s) s p.session h.answered.due t) → IsHostedState v p.session o
placed_by v hist s p t r h is (state.Resting lane) k = (k.0.idle, ap (λ (n : ℕ). lane_state v n) k.0.session ∙ k.0.slot, k.0.waiting)
placed_by v hist s p t r h is (state.UnderWay lane) k = (hist, k.call, is, record { slot = ap (λ (n : ℕ). lane_state v n) k.session ∙ k.slot; session = k.owner ∙ sym k.session; number = k.number })
placed_by v hist s p t r h is (state.Decided lane a) k = (k.idle, ap (λ (n : ℕ). lane_state v n) k.session ∙ k.slot, is_some_by p.session.waiting k.id k.waiting)
placed_by v hist s p t r h is (state.Gone c) k = tt

waits_by : (v : CoreView) (s : ℕ) (p : HostedSession) (t : SessionLog) (r : List RepliedCall) (h : Hosts t r (lane_state v s) s p) (o : HostedState) → IsAtPlace o p.closed (seat (lane_state v s) s p.session h.answered.due t) → is_busy o ≡ true → IsSome p.session.waiting
waits_by v s p t r h (state.UnderWay lane) k busy = subst IsSome (sym k.waiting) refl
waits_by v s p t r h (state.Decided lane a) k busy = subst IsSome (sym k.waiting) refl
waits_by v s p t r h _ k busy = cc

pub is_placed : (e : EngineView) (log : List Entry) → HasLog e log → (at : ℕ) (p : HostedSession) → slice_get e.hosted at ≡ Some p → IsHostedState e.core p.session p.place
is_placed e log h at p stood =
    let hosts = h.each at p stood in
    placed_by e.core (linearization log) (at + 1) p (of_session (at + 1) log) (recorded_in (at + 1) (linearization log)) hosts h.history p.place hosts.at

pub is_ready : (e : EngineView) (log : List Entry) → HasLog e log → (at : ℕ) (p : HostedSession) → slice_get e.hosted at ≡ Some p → IsReady (stand e.core p.session p.place)
is_ready e log h at p stood =
    let hosts = h.each at p stood in
    record { history = linearization log; is_history = h.history; placed = is_placed e log h at p stood; waits = waits_by e.core (at + 1) p (of_session (at + 1) log) (recorded_in (at + 1) (linearization log)) hosts p.place hosts.at }
