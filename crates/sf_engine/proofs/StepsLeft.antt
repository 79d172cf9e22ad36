-- The steps that are left to the calls of an engine: few, and fewer after each round.
use Rattle.std.proofs.Common.{◌≡◌, ◌≢◌, ℕ, zero, suc, ◌+◌, ◌-◌, ◌*◌, ◌<◌, ◌≤◌, ◌⊎◌, ◌^◌, List, [], ◌∷◌, ◌++◌, Option, Some, None, Bool, true, false, Result, Ok, Err, length, take, map, slice_get, refl, ap, sym, ◌∙◌, subst, arith, inl, inr, append-nil, add-one}
use Rattle.std.specs.List.{sum_by, AllByRecursion, Contains}
use Rattle.std.proofs.lemmas.Bool.{cases_lt}
use Rattle.std.proofs.lemmas.Option.{slice_get_within, get_or_from_slice_get}
use Rattle.std.proofs.lemmas.List.{take_all}
use Rattle.std.proofs.lemmas.List.Sums.{sum_by_more}
use Rattle.sf_call.specs.declared.call.Call.{Call}
use Rattle.sf_call.specs.declared.record.Record.{Record}
use Rattle.sf_reply.specs.declared.reply.Reply.{Reply}
use Rattle.sf_session.specs.declared.asking.Ask.{Ask}
use Rattle.sf_session.specs.declared.asking.Ask.TheVariants as ask
use Rattle.sf_session.specs.Sessions.{SessionView}
use Rattle.sf_session.specs.Responses.{RepliedCall, recorded_in, answered_in, ask_behind, AreAsked, Due, Unrecorded, Recorded, asked_due}
use Rattle.sf_core.specs.Cores.LaneState.{NoLane, Idle, Busy}
use Rattle.sf_core.specs.Cores.{CoreView, LaneState, lane_state}
use Rattle.sf_core.specs.Progress.{left_of, bound_of, IsBehind}
use Rattle.sf_core.specs.Stuck.{steps_left_in, left_below}
use Rattle.sf_core.specs.Events.{Before, After}
use Rattle.sf_core.proofs.Laws.{furthest, one_call, busy_left, idle_left, gone_left, goes_falls, writes_falls, copies_falls, fetches_falls, decides_falls}
use Rattle.sf_engine.specs.declared.event.Event.TheVariants as event
use Rattle.sf_engine.specs.declared.event.Happened.{Happened}
use Rattle.sf_engine.specs.declared.event.Happened.TheVariants as happened
use Rattle.sf_engine.specs.declared.event.EngineFault.{EngineFault}
use Rattle.sf_engine.specs.declared.hosted.HostedSession.{HostedSession}
use Rattle.sf_engine.specs.declared.hosted.HostedState.{HostedState}
use Rattle.sf_engine.specs.declared.hosted.HostedState.TheVariants as state
use Rattle.sf_engine.specs.Turns.{is_under_way}
use Rattle.sf_engine.specs.Works.{IsStep}
use Rattle.sf_engine.specs.Views.{EngineView}
use Rattle.sf_engine.specs.HasLog.{replied, left_to, IsBehindOther, IsHeldUp, HasPromise, blocked_in}
use Rattle.sf_engine.specs.Promise.{Entry, added_by, result_of, linearization, opened_in, SessionLog, of_session, phase, Running, is_running, under_way_to, under_way, AreNeverAllBlocked, IsInPhase}
use Rattle.sf_engine.specs.HasLog.{is_some_list, Hosts, HasLog, AppendsEntry, AppendsRound, IsAtPlace, AtRest, IsGoing, HasAnswer, IsAway, seat, here_at, here_of}
use Rattle.sf_engine.proofs.Short.{IsShortAsk, last_short, bound_is}
use Rattle.sf_engine.proofs.SessionEvents.{host, known, busy_at}
use Rattle.sf_engine.proofs.Rounds.{same_count, is_walks, RoundsSoFar, RoundLog, StepEntry, walking_at, walking_entry, is_step_result, starts_walking}
use Rattle.sf_engine.proofs.Base.{get_within, SameSlots, StepDoes, AllBlocked, work_on}

-- ---- few steps are left

due_few : (id : ℕ) (c : Call) (due : Due) (bodies : List (List ℕ)) (asks : List Ask) → (due ≡ Unrecorded id c.request) ⊎ ((reply : Reply) × (due ≡ Recorded id (replied c.number c.request reply))) → AreAsked false bodies (asks ++ asked_due due)
    → bound_of c.request ≤ 2 ^ 21 + 3
due_few id c due bodies asks (inl is) asked =
    let few : IsShortAsk (ask.Call id c.request) = last_short false bodies asks (ask.Call id c.request) (subst (λ (d : Due). AreAsked false bodies (asks ++ asked_due d)) is asked) in
    omega (arith, few, bound_is c.request)
due_few id c due bodies asks (inr is) asked =
    let few : IsShortAsk (ask.Call id c.request) = last_short false bodies asks (ask.Call id c.request) (subst (λ (d : Due). AreAsked false bodies (asks ++ asked_due d)) is.1 asked) in
    omega (arith, few, bound_is c.request)

place_few : (v : CoreView) (s : ℕ) (t : SessionLog) (r : List RepliedCall) (p : HostedSession) (h : Hosts t r (lane_state v s) s p) (o : HostedState) → IsAtPlace o p.closed (seat (lane_state v s) s p.session h.answered.due t)
    → steps_left_in (lane_state v s) ≤ here_at o * (2 ^ 21 + 3)
place_few v s t r p h (state.Resting lane) k = let e = idle_left v s k.0.slot in omega (arith, e)
place_few v s t r p h (state.Decided lane a) k = let e = idle_left v s k.slot in omega (arith, e)
place_few v s t r p h (state.Gone c) k = let e = gone_left v s k.slot in omega (arith, e)
place_few v s t r p h (state.UnderWay lane) k =
    let e = busy_left v s k.call k.slot in
    let few = k.few in
    let most = due_few k.id k.call h.answered.due h.answered.bodies (map ask_behind t.wrote) k.due h.answered.asked in
    omega (arith, e, few, most)

all_few : (e : EngineView) (log : List Entry) → HasLog e log → (k : ℕ) → k ≤ length e.hosted → left_below e.core (suc k) ≤ sum_by here_of (take k e.hosted) * (2 ^ 21 + 3)
all_few e log h zero le = let none = gone_left e.core 0 h.zero in omega (arith, none)
all_few e log h (suc k) le =
    let rest = all_few e log h k (omega (arith, le)) in
    let p = get_within e.hosted k (omega (arith, le)) in
    let hosts = h.each k p.0 p.1 in
    let one = place_few e.core (k + 1) (of_session (k + 1) log) (recorded_in (k + 1) (linearization log)) p.0 hosts p.0.place hosts.at in
    let num : k + 1 ≡ suc k = add-one k in
    let slot = ap (λ (n : ℕ). steps_left_in (lane_state e.core n)) num in
    let more = sum_by_more here_of e.hosted k p.0 (omega (arith, le)) in
    let here = ap here_of (get_or_from_slice_get e.hosted k p.0 p.0 p.1) in
    let taken = ap (λ (n : ℕ). sum_by here_of (take n e.hosted)) num in
    omega (arith, rest, one, slot, more, here, taken)

pub few_left_log : (e : EngineView) (log : List Entry) → HasLog e log → left_to e < 2 ^ 64
few_left_log e log h =
    let n = length e.hosted in
    let few = all_few e log h n (omega arith) in
    let whole = ap (λ (ps : List HostedSession). sum_by here_of ps) (take_all n e.hosted (omega arith)) in
    let num = ap (λ (k : ℕ). left_below e.core k) (add-one n) in
    let most = h.history.few in
    let here = h.present in
    omega (arith, few, whole, num, most, here)

-- ---- a step

does_step : (h : Happened) → is_step_result h ≡ true → (s m : ℕ) (v : CoreView) (l added : List Record) (w : CoreView) → IsStep (event.Turn s m) (Ok h) v l added w → StepDoes v s w
does_step happened.Moved ok s m v l added w step =
    let own : step.0.session ≡ s = step.2 in
    let before : Before = record { core = v; history = l; lane = step.0 } in
    let after : After = record { core = w; added = added; lane = step.1 } in
    elim step.3 [
      | inl go ↦ inr (λ n below. goes_falls v w step.0 go.0.0 go.0.1 n go.0.2 (omega (arith, below, own)))
      | inr other ↦ elim other [
        | inl d ↦ inr (λ n below. writes_falls before after d.0 d.1 d.2 n d.3 (omega (arith, below, own)))
        | inr b ↦ inr (λ n below. copies_falls v w step.0 b.0.0 b.0.1 n b.0.2 (omega (arith, below, own)))
      ]
    ]
does_step (happened.Blocked holder) ok s m v l added w step =
    let own : step.0.session ≡ s = step.2 in
    let b = step.3.1 in
    let waits : SameSlots v w × ((c : Call) → lane_state v s ≡ Busy c → IsBehindOther v c) = (
      b.looks.slots,
      λ c busy.
          let same = one_call v s step.0.session c step.3.0 (sym own) busy b.own.slot in
          record { other = b.other; call = b.call; slot = b.slot; deeper = subst (λ (z : Call). IsBehind z b.call) (sym same) b.deeper },
    ) in
    inl waits
does_step happened.Decided ok s m v l added w step =
    let own : step.0.session ≡ s = step.2 in
    let before : Before = record { core = v; history = l; lane = step.0 } in
    let after : After = record { core = w; added = added; lane = step.1 } in
    elim step.3.2 [
      | inl f ↦ inr (λ n below. fetches_falls before after step.3.0 step.3.1 n f (omega (arith, below, own)))
      | inr d ↦ inr (λ n below. decides_falls before after step.3.0 step.3.1 n d (omega (arith, below, own)))
    ]
does_step _ ok s m v l added w step = cc

-- ---- part of a round

-- all steps so far were blocked, or fewer steps are left
pub record WorkSoFar (e : EngineView) (at : ℕ) (any : Bool) (e' : EngineView) : Type 0 where
  pub work : AllBlocked e.core at e'.core ⊎ (left_below e'.core (length e.hosted + 1) < left_below e.core (length e.hosted + 1))
  pub same : any ≡ false → e' ≡ e

pub start_work : (e : EngineView) (log : List Entry) → HasLog e log → WorkSoFar e 0 false e
start_work e log h = record {
  work = inl (λ s. refl, λ s c le busy. let z : s ≡ 0 = omega (arith, le) in absurd (let no : NoLane ≡ Busy c = sym h.zero ∙ sym (ap (λ (k : ℕ). lane_state e.core k) z) ∙ busy in cc));
  same = λ z. refl;
}

-- a session whose call the core has is running by the log
busy_walks : (e : EngineView) (log : List Entry) (h : HasLog e log) (at : ℕ) (p : HostedSession) (stood : slice_get e.hosted at ≡ Some p) (c : Call) → lane_state e.core (at + 1) ≡ Busy c → is_running (phase (of_session (at + 1) log)) ≡ true
busy_walks e log h at p stood c busy =
    let hosts = h.each at p stood in
    walking_at e log h at p stood p.place refl ∙ ap is_under_way (busy_at p.place p.closed c (seat (lane_state e.core (at + 1)) (at + 1) p.session hosts.answered.due (of_session (at + 1) log)) busy hosts.at).1

pub skips_work : (e : EngineView) (at : ℕ) (any : Bool) (e' : EngineView) (log : List Entry) → HasLog e log → at < length e.hosted → is_running (phase (of_session (at + 1) log)) ≡ false → WorkSoFar e at any e' → WorkSoFar e (at + 1) any e'
skips_work e at any e' log h within rests k = record {
  work = elim k.work [
    | inl blocked ↦ inl (
      blocked.0,
      λ s c le busy. elim (cases_lt at s) [
        | inl last ↦
            let num : s ≡ at + 1 = omega (arith, last, le) in
            let here : lane_state e.core (at + 1) ≡ Busy c = sym (ap (λ (n : ℕ). lane_state e.core n) num) ∙ busy in
            let p = get_within e.hosted at within in
            absurd (let no : true ≡ false = sym (busy_walks e log h at p.0 p.1 c here) ∙ rests in cc)
        | inr before ↦ blocked.1 s c before busy
      ],
    )
    | inr less ↦ inr less
  ];
  same = k.same;
}

pub steps_work : (e : EngineView) (at : ℕ) (any : Bool) (e' e'' : EngineView) → at < length e.hosted → StepDoes e'.core (at + 1) e''.core → WorkSoFar e at any e' → WorkSoFar e (at + 1) true e''
steps_work e at any e' e'' within does k = record { work = work_on e at e' e'' within k.work does; same = λ no. cc }

-- ---- the whole round

busy_within : (e : EngineView) (log : List Entry) → HasLog e log → (s : ℕ) (c : Call) → lane_state e.core s ≡ Busy c → s ≤ length e.hosted
busy_within e log h s c busy = elim (cases_lt (length e.hosted) s) [
  | inl past ↦ absurd (let no : NoLane ≡ Busy c = sym (h.nobody s (omega (arith, past)) (omega (arith, past, h.count))).slot ∙ busy in cc)
  | inr le ↦ le
]

not_blocked : (e : EngineView) (log : List Entry) (v : CoreView) → HasLog e log → AllBlocked e.core (length e.hosted) v → (s : ℕ) (c : Call) → lane_state e.core s ≡ Busy c → ⊥
not_blocked e log v h blocked s c busy = elim (furthest e.core (length e.hosted + 1)) [
  | inl none ↦ let le = busy_within e log h s c busy in none s c (omega (arith, le)) busy
  | inr f ↦
      let waits = blocked.1 f.session f.call (busy_within e log h f.session f.call f.slot) f.slot in
      let le = busy_within e log h waits.other waits.call waits.slot in
      f.first waits.other waits.call (omega (arith, le)) waits.slot waits.deeper
]

-- the core has the call that is running by the log
under_busy : (t : SessionLog) (r : List RepliedCall) (slot : LaneState Call) (s : ℕ) (p : HostedSession) (h : Hosts t r slot s p) (o : HostedState) → is_under_way o ≡ true → IsAtPlace o p.closed (seat slot s p.session h.answered.due t) → (c : Call) × (slot ≡ Busy c)
under_busy t r slot s p h (state.UnderWay lane) e k = (k.call, k.slot)
under_busy t r slot s p h _ e k = cc

pub less_left : (e : EngineView) (at : ℕ) (e' : EngineView) (log : List Entry) → HasLog e log → WorkSoFar e at true e' → length e.hosted ≡ at → length e'.hosted ≡ length e.hosted → is_some_list (under_way log) ≡ true → left_to e' < left_to e
less_left e at e' log h k all count some =
    let w = starts_walking log (opened_in log) some in
    let p = get_within e.hosted w.0 (omega (arith, w.1, h.count)) in
    let under = sym (walking_at e log h w.0 p.0 p.1 p.0.place refl) ∙ w.2 in
    let hosts = h.each w.0 p.0 p.1 in
    let call = under_busy (of_session (w.0 + 1) log) (recorded_in (w.0 + 1) (linearization log)) (lane_state e.core (w.0 + 1)) (w.0 + 1) p.0 hosts p.0.place under hosts.at in
    let same = ap (λ (n : ℕ). left_below e'.core (n + 1)) count in
    elim k.work [
      | inl blocked ↦ absurd (not_blocked e log e'.core h (subst (λ (n : ℕ). AllBlocked e.core n e'.core) (sym all) blocked) (w.0 + 1) call.0 call.1)
      | inr less ↦ omega (arith, less, same)
    ]

pub skip_works : (e : EngineView) (at : ℕ) (any : Bool) (e' : EngineView) → RoundsSoFar e at any e' → (log : List Entry) → HasLog e log → at < length e.hosted → (p : HostedSession) → slice_get e'.hosted at ≡ Some p → is_under_way p.place ≡ false → WorkSoFar e at any e' → WorkSoFar e (at + 1) any e'
skip_works e at any e' so log h within p stood rests k =
    let r = so log h in
    let now = walking_at e' (log ++ r.entries) r.has at p stood p.place refl ∙ rests in
    let was = sym (ap (λ (t : SessionLog). is_running (phase t)) (r.later (at + 1) (omega arith))) ∙ now in
    skips_work e at any e' log h within was k

pub step_works : (e : EngineView) (at : ℕ) (any : Bool) (e' : EngineView) → RoundsSoFar e at any e' → (log : List Entry) → HasLog e log → at < length e.hosted → (p : HostedSession) → slice_get e'.hosted at ≡ Some p → is_under_way p.place ≡ true → (r : Result Happened EngineFault) (e'' : EngineView)
    → AppendsEntry e' (event.Turn (at + 1) 0) r e'' → WorkSoFar e at any e' → WorkSoFar e (at + 1) true e''
step_works e at any e' so log h within p stood under r e'' turn k =
    let so_far = so log h in
    let before = log ++ so_far.entries in
    let now = walking_at e' before so_far.has at p stood p.place refl ∙ under in
    let it = turn before so_far.has in
    let step = walking_entry before (at + 1) it.0 it.1 (known e' before so_far.has at p stood, is_walks (phase (of_session (at + 1) before)) now) (it.3.kept.lawful before [] it.0 refl) in
    let is_step = subst (λ (z : Result Happened EngineFault). IsStep (event.Turn (at + 1) 0) z e'.core (linearization before) (added_by it.0) e''.core) (sym it.2 ∙ step.ok) it.5 in
    steps_work e at any e' e'' within (does_step step.result step.steps (at + 1) 0 e'.core (linearization before) (added_by it.0) e''.core is_step) k

pub round_less : (e : EngineView) (at : ℕ) (any : Bool) (e' : EngineView) (log : List Entry) → HasLog e log → RoundsSoFar e at any e' → WorkSoFar e at any e' → at ≡ length e.hosted → any ≡ true → left_to e' < left_to e
round_less e at any e' log h so k all some =
    let r = so log h in
    let is = sym (ap (λ (n : ℕ). is_some_list (under_way_to log n)) (all ∙ h.count)) in
    less_left e at e' log h (subst (λ (b : Bool). WorkSoFar e at b e') some k) (sym all) (same_count e at any e' so log h) (is ∙ sym r.some ∙ some)

-- ---- not all calls are blocked

contained : (v : CoreView) (sessions : List ℕ) (s : ℕ) → AllByRecursion (IsHeldUp v) sessions → Contains sessions s → IsHeldUp v s
contained v [] s all is = absurd (omega (arith, is.1))
contained v (z ∷ sessions) s all (zero, within, at) = subst (λ (n : ℕ). IsHeldUp v n) at all.0
contained v (z ∷ sessions) s all (suc k, within, at) = contained v sessions s all.1 (k, omega (arith, within), at)

pub never_blocked : (e : EngineView) (log : List Entry) → HasLog e log → AreNeverAllBlocked log
never_blocked e log h zero at all = absurd (omega (arith, at.0.0))
never_blocked e log h (suc i) at all =
    let num : i + 1 ≡ suc i = add-one i in
    let p = get_within e.hosted i (omega (arith, at.0.1, h.count)) in
    let running : is_running (phase (of_session (i + 1) log)) ≡ true = ap (λ (n : ℕ). is_running (phase (of_session n log))) num ∙ ap is_running at.1 in
    let call = under_busy (of_session (i + 1) log) (recorded_in (i + 1) (linearization log)) (lane_state e.core (i + 1)) (i + 1) p.0 (h.each i p.0 p.1) p.0.place (sym (walking_at e log h i p.0 p.1 p.0.place refl) ∙ running) (h.each i p.0 p.1).at in
    let blocked : AllBlocked e.core (length e.hosted) e.core = (λ z. refl, λ z c le busy. held z c le busy) in
    not_blocked e log e.core h blocked (i + 1) call.0 call.1
  where
    held : (z : ℕ) (c : Call) → z ≤ length e.hosted → lane_state e.core z ≡ Busy c → IsBehindOther e.core c
    held zero c le busy = let no = sym h.zero ∙ busy in cc
    held (suc k) c le busy =
        let num : k + 1 ≡ suc k = add-one k in
        let q = get_within e.hosted k (omega (arith, le)) in
        let running = busy_walks e log h k q.0 q.1 c (ap (λ (n : ℕ). lane_state e.core n) num ∙ busy) in
        let is : IsInPhase log (suc k) Running = subst (λ (n : ℕ). IsInPhase log n Running) num (known e log h k q.0 q.1, is_walks (phase (of_session (k + 1) log)) running) in
        let up = contained e.core (blocked_in log) (suc k) h.blocked (all (suc k) is) in
        let same : up.0 ≡ c = let z : Busy up.0 ≡ Busy c = sym up.1 ∙ busy in cc in
        subst (λ (d : Call). IsBehindOther e.core d) same up.2

-- a log of the engine satisfies the promise
pub promised : {e : EngineView} {log : List Entry} → HasLog e log → HasPromise e log
promised {e = e} {log = log} h = (h, never_blocked e log h)
