-- One more entry: its effect on its session's part of the log, and that the engine has the log with
-- it.
use Rattle.std.proofs.Common.{◌≡◌, ◌≢◌, ℕ, zero, suc, ◌+◌, ◌-◌, ◌<◌, ◌≤◌, ◌⊎◌, List, [], ◌∷◌, ◌++◌, Option, Some, Bool, true, false, cond, slice_get, slice_set, length, refl, ap, sym, ◌∙◌, subst, arith, inl, inr, append-nil, length-set, append_assoc, length-append, None}
use Rattle.std.specs.Prelude.{nat_eq, if◌then◌else◌}
use Rattle.std.specs.List.{count_by, flat_map, sum_by, AllByRecursion}
use Rattle.std.proofs.lemmas.Bool.{cases_eq, ne_eqb, eq-eqb}
use Rattle.std.proofs.lemmas.List.{flat_map_more}
use Rattle.std.proofs.lemmas.Grind.{flat_map-append}
use Rattle.std.proofs.lemmas.List.Sums.{fold-append, sum_by-append}
use Rattle.std.proofs.lemmas.Option.{slice_get_within}
use Rattle.sf_call.specs.declared.call.Call.{Call}
use Rattle.sf_call.specs.declared.record.Record.{Record}
use Rattle.sf_call.specs.declared.record.Record.TheVariants.{Left}
use Rattle.sf_call.specs.Histories.{IsLegal}
use Rattle.sf_session.specs.Responses.{RepliedCall, recorded_by, recorded_in, Due, NothingDue, AreAsked, transcript}
use Rattle.sf_core.specs.Cores.LaneState.{NoLane, Idle, Busy}
use Rattle.sf_core.specs.Cores.{CoreView, LaneState, lane_state, joined}
use Rattle.sf_core.specs.Events.{SessionLeaves}
use Rattle.sf_core.specs.Histories.{IsHistory}
use Rattle.sf_engine.specs.declared.hosted.HostedSession.{HostedSession}
use Rattle.sf_engine.specs.Views.{EngineView}
use Rattle.sf_engine.specs.declared.event.Happened.TheVariants as happened
use Rattle.sf_engine.specs.declared.hosted.HostedState.TheVariants as state
use Rattle.sf_engine.specs.Turns.{OpenGives}
use Rattle.sf_session.specs.Sessions.{SessionView, new_session}
use Rattle.sf_session.specs.declared.cause.Cause.{Cause}
use Rattle.sf_engine.specs.declared.hosted.HostedState.{HostedState}
use Rattle.sf_engine.specs.declared.event.Event.{Event}
use Rattle.sf_engine.specs.declared.event.EngineFault.{EngineFault}
use Rattle.sf_engine.specs.Promise.{Entry, session_of, added_by, leaves_by, is_opening, is_beginning, linearization, opened_in, left_in, begun_in, SessionLog, new_log, with_own, with_next, of_session, IsKnown, IsLawful, IsAnswered, IsKept, SessionOpened, EventRefused, MayBeRefused, blocked_by, calls_by, IsPending}
use Rattle.sf_engine.specs.HasLog.{Hosts, IsNobody, HasLog, IsAtPlace, IsOpenOrGone, seat, here_at, here_of, IsHeldUp, blocked_in}
use Rattle.sf_engine.proofs.Base.{get_push, get_set_same, get_set_other, get_within, sum_by_write}

-- ---- one more entry

pub count_push : (f : Entry → Bool) (log : List Entry) (x : Entry) → count_by f (log ++ x ∷ []) ≡ count_by f log + cond (f x) 1 0
count_push f log x = let all = sum_by-append (λ (y : Entry). cond (f y) 1 0) log (x ∷ []) in omega (arith, all)

pub order_push : (log : List Entry) (x : Entry) → linearization (log ++ x ∷ []) ≡ linearization log ++ added_by x
order_push log x = sym (flat_map_more added_by [] log x)

session_push : (s : ℕ) (log : List Entry) (x : Entry) → of_session s (log ++ x ∷ []) ≡ with_next s (of_session s log) x
session_push s log x = fold-append (with_next s) new_log log (x ∷ [])

-- of its session
pub own_push : (s : ℕ) (log : List Entry) (x : Entry) → session_of x ≡ s → of_session s (log ++ x ∷ []) ≡ with_own (of_session s log) x
own_push s log x e = session_push s log x ∙ ap (λ (b : Bool). if b then with_own (of_session s log) x else of_session s log) (eq-eqb (session_of x) s e)

-- of another session
pub other_push : (s : ℕ) (log : List Entry) (x : Entry) → (session_of x ≡ s → ⊥) → of_session s (log ++ x ∷ []) ≡ of_session s log
other_push s log x ne = session_push s log x ∙ ap (λ (b : Bool). if b then with_own (of_session s log) x else of_session s log) (ne_eqb (session_of x) s ne)

recorded_push : (s : ℕ) (log : List Entry) (x : Entry) → recorded_in s (linearization (log ++ x ∷ [])) ≡ recorded_in s (linearization log) ++ recorded_in s (added_by x)
recorded_push s log x = ap (λ (h : List Record). recorded_in s h) (order_push log x) ∙ flat_map-append (recorded_by s) (linearization log) (added_by x)

-- ---- a kept log

pub none_before : (front back : List Entry) → [] ≡ front ++ back → front ≡ []
none_before [] back h = refl
none_before _ back h = cc

none_behind : (front back : List Entry) → [] ≡ front ++ back → back ≡ []
none_behind [] back h = sym h
none_behind _ back h = cc

parted : (log front back : List Entry) (e : Entry) → log ++ e ∷ [] ≡ front ++ back
    → ((back ≡ []) × (front ≡ log ++ e ∷ [])) ⊎ ((rest : List Entry) × (back ≡ rest ++ e ∷ []) × (log ≡ front ++ rest))
parted log [] back e same = inr (log, sym same, refl)
parted [] (x ∷ front) back e same =
    let none : [] ≡ front ++ back = cc in
    let first : e ≡ x = cc in
    inl (none_behind front back none, ap (λ (z : Entry). z ∷ front) (sym first) ∙ ap (λ (xs : List Entry). e ∷ xs) (none_before front back none))
parted (y ∷ log) (x ∷ front) back e same =
    let first : y ≡ x = cc in
    let rest : log ++ e ∷ [] ≡ front ++ back = cc in
    elim (parted log front back e rest) [
      | inl all ↦ inl (all.0, ap (λ (z : Entry). z ∷ front) (sym first) ∙ ap (λ (xs : List Entry). y ∷ xs) all.1)
      | inr some ↦ inr (some.0, some.1, ap (λ (z : Entry). z ∷ log) first ∙ ap (λ (xs : List Entry). x ∷ xs) some.2)
    ]

-- a property of each entry, with one more entry
each_push : (P : List Entry → Entry → Type 0) (log : List Entry) (e : Entry) → ((front back : List Entry) (x : Entry) → log ≡ front ++ x ∷ back → P front x) → P log e
    → (front back : List Entry) (x : Entry) → log ++ e ∷ [] ≡ front ++ x ∷ back → P front x
each_push P log e all last front back x same = elim (parted log front (x ∷ back) e same) [
  | inl whole ↦ let z : x ∷ back ≡ [] = whole.0 in absurd cc
  | inr some ↦ last_or_before some.0 some.1 some.2
]
  where
    last_or_before : (rest : List Entry) → x ∷ back ≡ rest ++ e ∷ [] → log ≡ front ++ rest → P front x
    last_or_before [] is whole =
        let own : e ≡ x = cc in
        subst (λ (z : Entry). P front z) own (subst (λ (xs : List Entry). P xs e) (whole ∙ append-nil front) last)
    last_or_before (y ∷ rest) is whole =
        let own : y ≡ x = cc in
        all front rest x (whole ∙ ap (λ (z : Entry). front ++ (z ∷ rest)) own)

kept_push : (log : List Entry) (e : Entry) → IsKept log → IsLegal (linearization (log ++ e ∷ [])) → IsLawful log e → AllByRecursion (IsPending log) (calls_by e)
    → ((s : ℕ) → IsKnown (log ++ e ∷ []) s → IsAnswered (of_session s (log ++ e ∷ [])) (recorded_in s (linearization (log ++ e ∷ [])))) → IsKept (log ++ e ∷ [])
kept_push log e kept legal lawful pending now = record {
  linearizable = record {
    legal = legal;
    pending = each_push (λ (front : List Entry) (x : Entry). AllByRecursion (IsPending front) (calls_by x)) log e kept.linearizable.pending pending;
    answered = λ front back same s. elim (parted log front back e same) [
      | inl all ↦ subst (λ (xs : List Entry). IsKnown xs s → IsAnswered (of_session s xs) (recorded_in s (linearization xs))) (sym all.1) (now s)
      | inr some ↦ kept.linearizable.answered front some.0 some.2 s
    ];
  };
  lawful = each_push IsLawful log e kept.lawful lawful;
}

-- ---- calls that were blocked

blocked_push : (log : List Entry) (x : Entry) → blocked_in (log ++ x ∷ []) ≡ blocked_by (blocked_in log) x
blocked_push log x = fold-append blocked_by [] log (x ∷ [])

-- the core keeps the calls that it has
abbrev pub KeepsBusy : CoreView → CoreView → Type 0
KeepsBusy v w = (s : ℕ) (c : Call) → lane_state v s ≡ Busy c → lane_state w s ≡ Busy c

pub keeps_others : (v w : CoreView) (own : ℕ) → ((s : ℕ) → s ≢ own → lane_state w s ≡ lane_state v s) → ((c : Call) → lane_state v own ≡ Busy c → ⊥) → KeepsBusy v w
keeps_others v w own others free s c busy = elim (cases_eq s own) [
  | inl same ↦ absurd (free c (ap (λ (n : ℕ). lane_state v n) (sym same) ∙ busy))
  | inr ne ↦ others s ne ∙ busy
]

pub held_on : (v w : CoreView) → KeepsBusy v w → (sessions : List ℕ) → AllByRecursion (IsHeldUp v) sessions → AllByRecursion (IsHeldUp w) sessions
held_on v w keeps [] all = tt
held_on v w keeps (s ∷ sessions) all =
    let b = all.0.2 in
    ((all.0.0, keeps s all.0.0 all.0.1, record { other = b.other; call = b.call; slot = keeps b.other b.call b.slot; deeper = b.deeper }), held_on v w keeps sessions all.1)

-- ---- an engine with one more entry

-- exactly the sessions that have left are gone
here_by : (o : HostedState) (closed : Bool) (t : SessionLog) (slot : LaneState Call) (s : ℕ) (x : SessionView) (due : Due) (bodies : List (List ℕ)) (rest : List ℕ) → IsAtPlace o closed (seat slot s x due t) → IsOpenOrGone x.ended t.left t.closed bodies rest x.unread
    → here_at o ≡ cond t.left 0 1
here_by (state.Resting lane) closed t slot s x due bodies rest k is = ap {B = ℕ} (λ (b : Bool). cond b 0 1) (sym (subst (λ (o : Option Cause). IsOpenOrGone o t.left t.closed bodies rest x.unread) k.0.ended is).0)
here_by _ closed t slot s x due bodies rest k is = ap {B = ℕ} (λ (b : Bool). cond b 0 1) (sym (subst (λ (o : Option Cause). IsOpenOrGone o t.left t.closed bodies rest x.unread) k.ended is).0)

pub here_is : (t : SessionLog) (r : List RepliedCall) (slot : LaneState Call) (s : ℕ) (p : HostedSession) → Hosts t r slot s p → here_of p ≡ cond t.left 0 1
here_is t r slot s p h = here_by p.place p.closed t slot s p.session h.answered.due h.answered.bodies h.answered.rest h.at h.open_or_gone

-- An event of the hosted session `at`: the new core, the session `q`, and that the other sessions
-- agree with their parts of the log.
pub record Goes (e : EngineView) (log : List Entry) (at : ℕ) (x : Entry) (v' : CoreView) (q : HostedSession) : Type 0 where
  pub is_of : session_of x ≡ at + 1
  pub within : at < length e.hosted
  pub history : IsHistory v' (linearization log ++ added_by x)
  pub joins : v'.joins ≡ e.core.joins
  pub drawn : v'.drawn ≡ e.core.drawn + cond (is_beginning x) 1 0
  pub joined : joined v' + cond (leaves_by x) 1 0 ≡ joined e.core
  pub opens : is_opening x ≡ false
  pub others : (i : ℕ) (p : HostedSession) → i ≢ at → slice_get e.hosted i ≡ Some p
      → Hosts (of_session (i + 1) log) (recorded_in (i + 1) (linearization log) ++ recorded_in (i + 1) (added_by x)) (lane_state v' (i + 1)) (i + 1) p
  pub nobody : (i : ℕ) → i ≢ at + 1 → lane_state e.core i ≡ NoLane → (lane_state v' i ≡ NoLane) × (recorded_in i (added_by x) ≡ [])
  pub own : Hosts (with_own (of_session (at + 1) log) x) (recorded_in (at + 1) (linearization log) ++ recorded_in (at + 1) (added_by x)) (lane_state v' (at + 1)) (at + 1) q
  pub lawful : IsLawful log x
  pub pending : AllByRecursion (IsPending log) (calls_by x)
  pub blocked : AllByRecursion (IsHeldUp v') (blocked_by (blocked_in log) x)
  pub left : cond (with_own (of_session (at + 1) log) x).left 0 1 + cond (leaves_by x) 1 0 ≡ cond (of_session (at + 1) log).left 0 1

abbrev pub changed_at : EngineView → ℕ → CoreView → HostedSession → EngineView
changed_at e at v' q = record { core = v'; hosted = slice_set e.hosted at q }

module _ (e : EngineView) (log : List Entry) (at : ℕ) (x : Entry) (v' : CoreView) (q : HostedSession) (h : HasLog e log) (g : Goes e log at x v' q) where
  abbrev next : List Entry
  next = log ++ x ∷ []

  opened_same : opened_in next ≡ opened_in log
  opened_same = omega (arith, count_push is_opening log x, ap {B = ℕ} (λ (b : Bool). cond b 1 0) g.opens)

  own_hosts : Hosts (of_session (at + 1) next) (recorded_in (at + 1) (linearization next)) (lane_state v' (at + 1)) (at + 1) q
  own_hosts =
      subst (λ (t : SessionLog). Hosts t (recorded_in (at + 1) (linearization next)) (lane_state v' (at + 1)) (at + 1) q) (sym (own_push (at + 1) log x g.is_of))
      (subst (λ (r : List RepliedCall). Hosts (with_own (of_session (at + 1) log) x) r (lane_state v' (at + 1)) (at + 1) q) (sym (recorded_push (at + 1) log x)) g.own)

  other_hosts : (i : ℕ) (p : HostedSession) → (i ≡ at → ⊥) → slice_get e.hosted i ≡ Some p → Hosts (of_session (i + 1) next) (recorded_in (i + 1) (linearization next)) (lane_state v' (i + 1)) (i + 1) p
  other_hosts i p ne stood =
      subst (λ (t : SessionLog). Hosts t (recorded_in (i + 1) (linearization next)) (lane_state v' (i + 1)) (i + 1) p) (sym (other_push (i + 1) log x (λ k. ne (omega (arith, k, g.is_of)))))
      (subst (λ (r : List RepliedCall). Hosts (of_session (i + 1) log) r (lane_state v' (i + 1)) (i + 1) p) (sym (recorded_push (i + 1) log x))
      (g.others i p ne stood))

  each_hosts : (i : ℕ) (p : HostedSession) → slice_get (slice_set e.hosted at q) i ≡ Some p → Hosts (of_session (i + 1) next) (recorded_in (i + 1) (linearization next)) (lane_state v' (i + 1)) (i + 1) p
  each_hosts i p stood = elim (cases_eq i at) [
    | inl same ↦
        let was = get_within e.hosted at g.within in
        let stood' : slice_get (slice_set e.hosted at q) at ≡ Some p = ap (λ (n : ℕ). slice_get (slice_set e.hosted at q) n) (sym same) ∙ stood in
        let is : q ≡ p = let z : slice_get (slice_set e.hosted at q) at ≡ Some q = get_set_same e.hosted at was.0 q was.1 in cc in
        subst (λ (n : ℕ). Hosts (of_session (n + 1) next) (recorded_in (n + 1) (linearization next)) (lane_state v' (n + 1)) (n + 1) p) (sym same)
        (subst (λ (z : HostedSession). Hosts (of_session (at + 1) next) (recorded_in (at + 1) (linearization next)) (lane_state v' (at + 1)) (at + 1) z) is own_hosts)
    | inr ne ↦ other_hosts i p ne (sym (get_set_other e.hosted at i q ne) ∙ stood)
  ]

  answered_now : (s : ℕ) → IsKnown next s → IsAnswered (of_session s next) (recorded_in s (linearization next))
  answered_now s known =
      let p = get_within (slice_set e.hosted at q) (s - 1) (omega (arith, known.0, known.1, opened_same, h.count, length-set e.hosted at q)) in
      let num : s - 1 + 1 ≡ s = omega (arith, known.0) in
      subst (λ (n : ℕ). IsAnswered (of_session n next) (recorded_in n (linearization next))) num (each_hosts (s - 1) p.0 p.1).answered

  pub goes_on : HasLog (changed_at e at v' q) next
  goes_on = record {
    history = subst (λ (r : List Record). IsHistory v' r) (sym (order_push log x)) g.history;
    kept = kept_push log x h.kept (subst IsLegal (sym (order_push log x)) g.history.legal) g.lawful g.pending answered_now;
    begun = omega (arith, g.drawn, h.begun, count_push is_beginning log x);
    opened = g.joins ∙ h.opened ∙ sym opened_same;
    here = omega (arith, g.joined, h.here, count_push leaves_by log x, opened_same);
    count = length-set e.hosted at q ∙ h.count ∙ sym opened_same;
    each = each_hosts;
    nobody = λ s some out.
        let out' : opened_in log < s = omega (arith, out, opened_same) in
        let was = h.nobody s some out' in
        let apart : s ≢ at + 1 = λ k. absurd (omega (arith, k, out', g.within, h.count)) in
        let now = g.nobody s apart was.slot in record {
          slot = now.0;
          none = other_push s log x (λ k. apart (sym k ∙ g.is_of)) ∙ was.none;
          recorded = recorded_push s log x ∙ ap (λ (r : List RepliedCall). recorded_in s (linearization log) ++ r) now.1 ∙ append-nil (recorded_in s (linearization log)) ∙ was.recorded;
        };
    zero = (g.nobody 0 (λ k. absurd (omega (arith, k))) h.zero).0;
    present =
        let was = get_within e.hosted at g.within in
        let before = here_is (of_session (at + 1) log) (recorded_in (at + 1) (linearization log)) (lane_state e.core (at + 1)) (at + 1) was.0 (h.each at was.0 was.1) in
        let after = here_is (with_own (of_session (at + 1) log) x) (recorded_in (at + 1) (linearization log) ++ recorded_in (at + 1) (added_by x)) (lane_state v' (at + 1)) (at + 1) q g.own in
        let all = sum_by_write here_of e.hosted at was.0 q was.1 in
        let left = g.left in
        let joined = g.joined in
        omega (arith, all, before, after, left, joined, h.present);
    blocked = subst (λ (ss : List ℕ). AllByRecursion (IsHeldUp v') ss) (sym (blocked_push log x)) g.blocked;
  }

-- a session with the same lane state and no new record
pub others_same : (v v' : CoreView) (i : ℕ) (added : List Record) → lane_state v' i ≡ lane_state v i → recorded_in i added ≡ [] → (t : SessionLog) (r : List RepliedCall) (p : HostedSession)
    → Hosts t r (lane_state v i) i p → Hosts t (r ++ recorded_in i added) (lane_state v' i) i p
others_same v v' i added slot none t r p host =
    subst (λ (z : List RepliedCall). Hosts t z (lane_state v' i) i p) (sym (ap (λ (z : List RepliedCall). r ++ z) none ∙ append-nil r)) (subst (λ (z : LaneState Call). Hosts t r z i p) (sym slot) host)

-- the core is the same but for its look-ups
pub record IsSame (v v' : CoreView) (h : List Record) : Type 0 where
  pub joins : v'.joins ≡ v.joins
  pub drawn : v'.drawn ≡ v.drawn
  pub joined : joined v' ≡ joined v
  pub slots : (i : ℕ) → lane_state v' i ≡ lane_state v i
  pub history : IsHistory v' h

no_calls : (log : List Entry) (x : Entry) → calls_by x ≡ [] → AllByRecursion (IsPending log) (calls_by x)
no_calls log x none = subst (λ (rs : List Record). AllByRecursion (IsPending log) rs) (sym none) tt

-- an entry of the session that adds no record, and begins and opens nothing
abbrev pub IsQuiet : ℕ → Entry → Type 0
IsQuiet s x = (session_of x ≡ s) × (is_beginning x ≡ false) × (leaves_by x ≡ false) × (is_opening x ≡ false) × (added_by x ≡ []) × (calls_by x ≡ [])

-- an event of a session that adds no record, and keeps its place in the core
pub record Stays (e : EngineView) (log : List Entry) (at : ℕ) (x : Entry) (v' : CoreView) (q : HostedSession) : Type 0 where
  pub quiet : IsQuiet (at + 1) x
  pub within : at < length e.hosted
  pub same : IsSame e.core v' (linearization log)
  pub blocked : AllByRecursion (IsHeldUp e.core) (blocked_by (blocked_in log) x)
  pub own : Hosts (with_own (of_session (at + 1) log) x) (recorded_in (at + 1) (linearization log)) (lane_state e.core (at + 1)) (at + 1) q
  pub lawful : IsLawful log x
  pub left : (with_own (of_session (at + 1) log) x).left ≡ (of_session (at + 1) log).left

pub stays_on : (e : EngineView) (log : List Entry) (at : ℕ) (x : Entry) (v' : CoreView) (q : HostedSession) → HasLog e log → Stays e log at x v' q → HasLog (changed_at e at v' q) (log ++ x ∷ [])
stays_on e log at x v' q h g = goes_on e log at x v' q h (record {
  is_of = g.quiet.0;
  within = g.within;
  history = subst (λ (r : List Record). IsHistory v' r) (sym (ap (λ (r : List Record). linearization log ++ r) g.quiet.4 ∙ append-nil (linearization log))) g.same.history;
  joins = g.same.joins;
  drawn = omega (arith, g.same.drawn, ap {B = ℕ} (λ (b : Bool). cond b 1 0) g.quiet.1);
  joined = omega (arith, g.same.joined, ap {B = ℕ} (λ (b : Bool). cond b 1 0) g.quiet.2);
  opens = g.quiet.3;
  others = λ i p ne stood. others_same e.core v' (i + 1) (added_by x) (g.same.slots (i + 1)) (ap (λ (r : List Record). recorded_in (i + 1) r) g.quiet.4) (of_session (i + 1) log) (recorded_in (i + 1) (linearization log)) p (h.each i p stood);
  nobody = λ i ne none. (g.same.slots i ∙ none, ap (λ (r : List Record). recorded_in i r) g.quiet.4);
  own = others_same e.core v' (at + 1) (added_by x) (g.same.slots (at + 1)) (ap (λ (r : List Record). recorded_in (at + 1) r) g.quiet.4) (with_own (of_session (at + 1) log) x) (recorded_in (at + 1) (linearization log)) q g.own;
  lawful = g.lawful;
  pending = no_calls log x g.quiet.5;
  blocked = held_on e.core v' (λ s c busy. g.same.slots s ∙ busy) (blocked_by (blocked_in log) x) g.blocked;
  left = let a = ap {B = ℕ} (λ (b : Bool). cond b 0 1) g.left in let b = ap {B = ℕ} (λ (b : Bool). cond b 1 0) g.quiet.2 in omega (arith, a, b);
})

-- an entry with which the session leaves, and no more
abbrev pub IsLeaving : ℕ → List Entry → Entry → Type 0
IsLeaving s log x =
    (session_of x ≡ s) × (is_beginning x ≡ false) × (leaves_by x ≡ true) × (is_opening x ≡ false) × (added_by x ≡ Left s ∷ []) × (calls_by x ≡ []) × (blocked_by (blocked_in log) x ≡ blocked_in log) × ((with_own (of_session s log) x).left ≡ true)

-- an event with which its session leaves the core
pub record Leaves (e : EngineView) (log : List Entry) (at : ℕ) (x : Entry) (v' : CoreView) (q : HostedSession) : Type 0 where
  pub leaving : IsLeaving (at + 1) log x
  pub within : at < length e.hosted
  pub left : SessionLeaves e.core v' (at + 1)
  pub history : IsHistory v' (linearization log ++ Left (at + 1) ∷ [])
  pub own : Hosts (with_own (of_session (at + 1) log) x) (recorded_in (at + 1) (linearization log)) NoLane (at + 1) q
  pub lawful : IsLawful log x
  pub here : (of_session (at + 1) log).left ≡ false

pub leaves_on : (e : EngineView) (log : List Entry) (at : ℕ) (x : Entry) (v' : CoreView) (q : HostedSession) → HasLog e log → Leaves e log at x v' q → HasLog (changed_at e at v' q) (log ++ x ∷ [])
leaves_on e log at x v' q h g =
    let none : (i : ℕ) → recorded_in i (added_by x) ≡ [] = λ i. ap (λ (r : List Record). recorded_in i r) g.leaving.4 in
    goes_on e log at x v' q h (record {
      is_of = g.leaving.0;
      within = g.within;
      history = subst (λ (r : List Record). IsHistory v' (linearization log ++ r)) (sym g.leaving.4) g.history;
      joins = g.left.joins;
      drawn = omega (arith, g.left.drawn, ap {B = ℕ} (λ (b : Bool). cond b 1 0) g.leaving.1);
      joined = omega (arith, g.left.joined, ap {B = ℕ} (λ (b : Bool). cond b 1 0) g.leaving.2);
      opens = g.leaving.3;
      others = λ i p ne stood. others_same e.core v' (i + 1) (added_by x) (g.left.others (i + 1) (λ k. ne (omega (arith, k)))) (none (i + 1)) (of_session (i + 1) log) (recorded_in (i + 1) (linearization log)) p (h.each i p stood);
      nobody = λ i ne was. (g.left.others i ne ∙ was, none i);
      own = subst (λ (z : LaneState Call). Hosts (with_own (of_session (at + 1) log) x) (recorded_in (at + 1) (linearization log) ++ recorded_in (at + 1) (added_by x)) z (at + 1) q) (sym g.left.own)
          (subst (λ (z : List RepliedCall). Hosts (with_own (of_session (at + 1) log) x) z NoLane (at + 1) q) (sym (ap (λ (z : List RepliedCall). recorded_in (at + 1) (linearization log) ++ z) (none (at + 1)) ∙ append-nil (recorded_in (at + 1) (linearization log)))) g.own);
      lawful = g.lawful;
      pending = no_calls log x g.leaving.5;
      blocked = subst (λ (ss : List ℕ). AllByRecursion (IsHeldUp v') ss) (sym g.leaving.6)
          (held_on e.core v' (keeps_others e.core v' (at + 1) g.left.others (λ c busy. let no : Idle ≡ Busy c = sym g.left.idle ∙ busy in cc)) (blocked_in log) h.blocked);
      left = let a = ap {B = ℕ} (λ (b : Bool). cond b 0 1) g.leaving.7 in let b = ap {B = ℕ} (λ (b : Bool). cond b 1 0) g.leaving.2 in let c = ap {B = ℕ} (λ (b : Bool). cond b 0 1) g.here in omega (arith, a, b, c);
    })

-- ---- a refused event

module _ (e : EngineView) (log : List Entry) (ev : Event) (f : EngineFault) (h : HasLog e log) (may : MayBeRefused log ev f) where
  abbrev again : List Entry
  again = log ++ EventRefused ev f ∷ []

  nobodys : (s : ℕ) → 0 < s → of_session s again ≡ of_session s log
  nobodys s some = other_push s log (EventRefused ev f) (λ k. absurd (omega (arith, k, some)))

  order_same : linearization again ≡ linearization log
  order_same = order_push log (EventRefused ev f) ∙ append-nil (linearization log)

  hosts_again : (i : ℕ) (p : HostedSession) → slice_get e.hosted i ≡ Some p → Hosts (of_session (i + 1) again) (recorded_in (i + 1) (linearization again)) (lane_state e.core (i + 1)) (i + 1) p
  hosts_again i p stood =
      subst (λ (t : SessionLog). Hosts t (recorded_in (i + 1) (linearization again)) (lane_state e.core (i + 1)) (i + 1) p) (sym (nobodys (i + 1) (omega arith)))
      (subst (λ (z : List Record). Hosts (of_session (i + 1) log) (recorded_in (i + 1) z) (lane_state e.core (i + 1)) (i + 1) p) (sym order_same) (h.each i p stood))

  opened_again : opened_in again ≡ opened_in log
  opened_again = omega (arith, count_push is_opening log (EventRefused ev f))

  answered_again : (s : ℕ) → IsKnown again s → IsAnswered (of_session s again) (recorded_in s (linearization again))
  answered_again s known =
      let p = get_within e.hosted (s - 1) (omega (arith, known.0, known.1, opened_again, h.count)) in
      let num : s - 1 + 1 ≡ s = omega (arith, known.0) in
      subst (λ (n : ℕ). IsAnswered (of_session n again) (recorded_in n (linearization again))) num (hosts_again (s - 1) p.0 p.1).answered

  pub refused_on : HasLog e again
  refused_on = record {
    history = subst (λ (z : List Record). IsHistory e.core z) (sym order_same) h.history;
    kept = kept_push log (EventRefused ev f) h.kept (subst IsLegal (sym order_same) h.history.legal) may tt answered_again;
    begun = omega (arith, h.begun, count_push is_beginning log (EventRefused ev f));
    opened = h.opened ∙ sym opened_again;
    here = omega (arith, h.here, opened_again, count_push leaves_by log (EventRefused ev f));
    count = h.count ∙ sym opened_again;
    each = hosts_again;
    nobody = λ s some out.
        let was = h.nobody s some (omega (arith, out, opened_again)) in
        record { slot = was.slot; none = nobodys s some ∙ was.none; recorded = ap (λ (z : List Record). recorded_in s z) order_same ∙ was.recorded };
    zero = h.zero;
    present = h.present;
    blocked = subst (λ (ss : List ℕ). AllByRecursion (IsHeldUp e.core) ss) (sym (blocked_push log (EventRefused ev f))) h.blocked;
  }

-- ---- a session opens

module _ (e : EngineView) (log : List Entry) (h : HasLog e log) (new : EngineView) (g : OpenGives e.core e.hosted (e.core.joins + 1) new.core new.hosted) (history : (l : List Record) → IsHistory e.core l → IsHistory new.core l) where
  abbrev n : ℕ
  n = opened_in log + 1

  abbrev opened : List Entry
  opened = log ++ SessionOpened n ∷ []

  abbrev first : HostedSession
  first = record { session = new_session; place = state.Resting (record { session = e.core.joins + 1; call = None; begun = 0 }); closed = false }

  num : e.core.joins + 1 ≡ n
  num = ap (λ (k : ℕ). k + 1) h.opened

  order_is : linearization opened ≡ linearization log
  order_is = order_push log (SessionOpened n) ∙ append-nil (linearization log)

  one_more : opened_in opened ≡ n
  one_more = omega (arith, count_push is_opening log (SessionOpened n))

  others_opened : (s : ℕ) → (s ≡ n → ⊥) → of_session s opened ≡ of_session s log
  others_opened s ne = other_push s log (SessionOpened n) (λ k. ne (sym k))

  abbrev opened_log : SessionLog
  opened_log = record new_log { last = Some (SessionOpened n) }

  first_hosts : Hosts opened_log [] Idle n first
  unfolding AreAsked transcript
  first_hosts = record {
    answered = record { bodies = []; rest = []; due = NothingDue; are_bodies = tt; fed = refl; asked = tt; calls = refl; begun = refl; after_last = tt; closed = λ c k. absurd (let z : false ≡ true = c in cc); few = tt };
    output = record { sent = []; count_is = refl; packets = refl };
    begun = refl;
    open_or_gone = (refl, refl);
    closed = λ l. refl;
    at = (record { session = num; idle = refl; slot = refl; waiting = refl; ended = refl; due = refl }, refl);
  }

  hosts_opened : (i : ℕ) (p : HostedSession) → slice_get new.hosted i ≡ Some p → Hosts (of_session (i + 1) opened) (recorded_in (i + 1) (linearization opened)) (lane_state new.core (i + 1)) (i + 1) p
  hosts_opened i p stood = elim (get_push e.hosted i first p (ap (λ (z : List HostedSession). slice_get z i) (sym g.added) ∙ stood)) [
    | inl was ↦
        let within = slice_get_within e.hosted i p was in
        let apart : i + 1 ≡ n → ⊥ = λ k. absurd (omega (arith, k, within, h.count)) in
        subst (λ (t : SessionLog). Hosts t (recorded_in (i + 1) (linearization opened)) (lane_state new.core (i + 1)) (i + 1) p) (sym (others_opened (i + 1) apart))
        (subst (λ (z : List Record). Hosts (of_session (i + 1) log) (recorded_in (i + 1) z) (lane_state new.core (i + 1)) (i + 1) p) (sym order_is)
        (subst (λ (z : LaneState Call). Hosts (of_session (i + 1) log) (recorded_in (i + 1) (linearization log)) z (i + 1) p) (sym (g.core.others (i + 1) (λ k. apart (k ∙ num)))) (h.each i p was)))
    | inr out ↦
        let at : n ≡ i + 1 = omega (arith, out.0, h.count) in
        let nobody = h.nobody n (omega arith) (omega arith) in
        let slot : lane_state new.core n ≡ Idle = ap (λ (k : ℕ). lane_state new.core k) (sym num) ∙ g.core.own in
        let own : of_session n opened ≡ opened_log = own_push n log (SessionOpened n) refl ∙ ap (λ (t : SessionLog). with_own t (SessionOpened n)) nobody.none in
        subst (λ (k : ℕ). Hosts (of_session k opened) (recorded_in k (linearization opened)) (lane_state new.core k) k p) at
        (subst (λ (z : HostedSession). Hosts (of_session n opened) (recorded_in n (linearization opened)) (lane_state new.core n) n z) out.1
        (subst (λ (z : LaneState Call). Hosts (of_session n opened) (recorded_in n (linearization opened)) z n first) (sym slot)
        (subst (λ (z : List RepliedCall). Hosts (of_session n opened) z Idle n first) (sym (ap (λ (z : List Record). recorded_in n z) order_is ∙ nobody.recorded)) (subst (λ (t : SessionLog). Hosts t [] Idle n first) (sym own) first_hosts))))
  ]

  answered_opened : (s : ℕ) → IsKnown opened s → IsAnswered (of_session s opened) (recorded_in s (linearization opened))
  answered_opened s known =
      let count : length new.hosted ≡ length e.hosted + 1 = ap (λ (z : List HostedSession). length z) g.added ∙ length-append e.hosted (first ∷ []) in
      let p = get_within new.hosted (s - 1) (omega (arith, known.0, known.1, one_more, h.count, count)) in
      let back : s - 1 + 1 ≡ s = omega (arith, known.0) in
      subst (λ (k : ℕ). IsAnswered (of_session k opened) (recorded_in k (linearization opened))) back (hosts_opened (s - 1) p.0 p.1).answered

  pub opened_on : HasLog new opened
  opened_on = record {
    history = subst (λ (z : List Record). IsHistory new.core z) (sym order_is) (history (linearization log) h.history);
    kept = kept_push log (SessionOpened n) h.kept (subst IsLegal (sym order_is) h.history.legal) (refl, let few = g.core.few in let here = h.here in omega (arith, few, here)) tt answered_opened;
    begun = let drawn = g.core.drawn in omega (arith, drawn, h.begun, count_push is_beginning log (SessionOpened n));
    opened = g.core.joins ∙ num ∙ sym one_more;
    here = let joined = g.core.joined in omega (arith, joined, h.here, one_more, count_push leaves_by log (SessionOpened n));
    count = ap (λ (z : List HostedSession). length z) g.added ∙ length-append e.hosted (first ∷ []) ∙ ap (λ (k : ℕ). k + 1) h.count ∙ sym one_more;
    each = hosts_opened;
    nobody = λ s some out.
        let apart : s ≡ n → ⊥ = λ k. absurd (omega (arith, k, out, one_more)) in
        let was = h.nobody s some (omega (arith, out, one_more)) in
        record { slot = g.core.others s (λ k. apart (k ∙ num)) ∙ was.slot; none = others_opened s apart ∙ was.none; recorded = ap (λ (z : List Record). recorded_in s z) order_is ∙ was.recorded };
    zero = g.core.others 0 (λ k. absurd (omega (arith, k))) ∙ h.zero;
    present =
        let all = ap (λ (z : List HostedSession). sum_by here_of z) g.added in
        let sum = sum_by-append here_of e.hosted (first ∷ []) in
        let joined = g.core.joined in
        omega (arith, joined, h.present, all, sum);
    blocked =
        let free : (c : Call) → lane_state e.core (e.core.joins + 1) ≡ Busy c → ⊥ = λ c busy. let no : NoLane ≡ Busy c = sym (h.nobody n (omega arith) (omega arith)).slot ∙ ap (λ (k : ℕ). lane_state e.core k) (sym num) ∙ busy in cc in
        subst (λ (ss : List ℕ). AllByRecursion (IsHeldUp new.core) ss) (sym (blocked_push log (SessionOpened n)))
        (held_on e.core new.core (keeps_others e.core new.core (e.core.joins + 1) g.core.others free) (blocked_in log) h.blocked);
  }
