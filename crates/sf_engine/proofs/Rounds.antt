-- Rounds and runs, in the words of the log.
use Rattle.sf_engine.proofs.Base.{zip_push}
use Rattle.std.specs.Result.{IsOk}
use Rattle.std.proofs.Common.{◌≡◌, ◌≢◌, ℕ, zero, suc, ◌+◌, ◌<◌, ◌≤◌, ◌⊎◌, List, [], ◌∷◌, ◌++◌, Some, None, Bool, true, false, Result, Ok, Err, length, slice_get, refl, ap, sym, ◌∙◌, subst, arith, inl, inr, append-nil, append_assoc, length-append, add-one}
use Rattle.std.specs.Prelude.{if◌then◌else◌}
use Rattle.std.proofs.lemmas.Option.{slice_get_within}
use Rattle.std.specs.List.{flat_map, sum_by, AllZip}
use Rattle.std.proofs.lemmas.List.{map-append}
use Rattle.std.proofs.lemmas.List.Sums.{sum_by-append}
use Rattle.sf_engine.specs.Promise.{refusals, under_way}
use Rattle.std.proofs.lemmas.Grind.{flat_map-append}
use Rattle.sf_session.specs.Responses.{Response, Version, Locally, ByCall, Refused}
use Rattle.sf_engine.specs.declared.event.Event.{Event}
use Rattle.sf_engine.specs.declared.event.Event.TheVariants as event
use Rattle.sf_engine.specs.declared.event.Happened.{Happened}
use Rattle.sf_engine.specs.declared.event.Happened.TheVariants as happened
use Rattle.sf_engine.specs.declared.event.EngineFault.{EngineFault}
use Rattle.sf_engine.specs.declared.event.EngineFault.TheVariants as fault
use Rattle.sf_engine.specs.declared.hosted.HostedSession.{HostedSession}
use Rattle.sf_engine.specs.declared.hosted.HostedState.{HostedState}
use Rattle.sf_engine.specs.declared.hosted.HostedState.TheVariants as state
use Rattle.sf_engine.specs.Turns.{is_under_way}
use Rattle.sf_engine.specs.Views.{EngineView}
use Rattle.sf_engine.specs.Promise.{Entry, SessionOpened, BytesFed, CallBegun, CallMoved, CallBlocked, CallDecided, ReplyWritten, SessionIdle, SessionEnded, SessionClosed, BytesSent, EventRefused, event_of, result_of, session_of, is_opening, opened_in, SessionLog, of_session, SessionPhase, WithoutCall, Running, Replying, HasLeft, phase, phase_before, IsInPhase, IsKnown, IsLawful, MayBeRefused, is_running, under_way_to, under_way, AreRounds}
use Rattle.sf_engine.specs.HasLog.{HasLog, AppendsEntry, AppendsEvents, is_some_list, AppendsRound, AppendsRounds, AreDecided, IsStepOf}
use Rattle.sf_engine.proofs.Appending.{count_push, other_push}
use Rattle.sf_engine.proofs.SessionEvents.{known, phase_for, phase_is}

-- ---- lists

none_listed : (xs : List ℕ) → is_some_list xs ≡ false → xs ≡ []
none_listed [] none = refl
none_listed _ none = cc

some_push : (xs : List ℕ) (x : ℕ) → is_some_list (xs ++ x ∷ []) ≡ true
some_push [] x = refl
some_push (y ∷ xs) x = refl

-- ---- a turn of a session whose call is running

not_walking : (a : Response) (c : SessionPhase) → phase_before a ≡ c → c ≡ Running → ⊥
not_walking (ByCall id number request reply) c is walks = cc
not_walking _ c is walks = cc

not_ended : (leaves : Bool) (c : SessionPhase) → c ≡ (if leaves then WithoutCall else HasLeft) → c ≡ Running → ⊥
not_ended true c is walks = cc
not_ended false c is walks = cc

abbrev pub is_step_result : Happened → Bool
is_step_result happened.Moved = true
is_step_result (happened.Blocked holder) = true
is_step_result happened.Decided = true
is_step_result _ = false

-- the entry is the session's, and is not refused
pub record StepEntry (s : ℕ) (x : Entry) : Type 0 where
  pub result : Happened
  pub steps : is_step_result result ≡ true
  pub ok : result_of x ≡ Ok result
  pub is_of : session_of x ≡ s
  pub opens : is_opening x ≡ false

by_event : (z m s : ℕ) → event.Turn z m ≡ event.Turn s 0 → z ≡ s
by_event z m s same = cc

at_event : (front : List Entry) (z m s : ℕ) (c : SessionPhase) → event.Turn z m ≡ event.Turn s 0 → phase (of_session z front) ≡ c → phase (of_session s front) ≡ c
at_event front z m s c same is = subst (λ (k : ℕ). phase (of_session k front) ≡ c) (by_event z m s same) is

refused_walks : (front : List Entry) (s : ℕ) (f : EngineFault) → IsInPhase front s Running → MayBeRefused front (event.Turn s 0) f → ⊥
refused_walks front s fault.OutOfMemory is may = elim may [
  | inl rests ↦ absurd (let z : WithoutCall ≡ Running = sym rests.1 ∙ is.1 in cc)
  | inr waits ↦ absurd (let z : Replying ≡ Running = sym waits.0.1 ∙ is.1 in cc)
]
refused_walks front s fault.NoSuchSession is may = may is.0
refused_walks front s _ is may = may

pub walking_entry : (front : List Entry) (s : ℕ) (x : Entry) → event_of x ≡ event.Turn s 0 → IsInPhase front s Running → IsLawful front x → StepEntry s x
walking_entry front s (CallMoved z m added) ev is lawful = record { result = happened.Moved; steps = refl; ok = refl; is_of = by_event z m s ev; opens = refl }
walking_entry front s (CallBlocked z m holder) ev is lawful = record { result = happened.Blocked holder; steps = refl; ok = refl; is_of = by_event z m s ev; opens = refl }
walking_entry front s (CallDecided z m added) ev is lawful = record { result = happened.Decided; steps = refl; ok = refl; is_of = by_event z m s ev; opens = refl }
walking_entry front s (CallBegun z m n) ev is lawful = let w = sym (at_event front z m s WithoutCall ev lawful.0.1) ∙ is.1 in cc
walking_entry front s (ReplyWritten z m answer leaves) ev is lawful = absurd (not_walking answer (phase (of_session s front)) (sym (at_event front z m s (phase_before answer) ev lawful.0.1)) is.1)
walking_entry front s (SessionIdle z m) ev is lawful = let w = sym (at_event front z m s WithoutCall ev lawful.1) ∙ is.1 in cc
walking_entry front s (SessionEnded z m c leaves) ev is lawful = absurd (not_ended leaves (phase (of_session s front)) (at_event front z m s (if leaves then WithoutCall else HasLeft) ev lawful.1) is.1)
walking_entry front s (EventRefused e f) ev is lawful = absurd (refused_walks front s f is (subst (λ (z : Event). MayBeRefused front z f) ev lawful))
walking_entry front s _ ev is lawful = cc

-- ---- the phase of a hosted session

running_for : (o : HostedState) → is_running (phase_for o) ≡ is_under_way o
running_for (state.UnderWay lane) = refl
running_for _ = refl

module _ (e : EngineView) (log : List Entry) (h : HasLog e log) (at : ℕ) (p : HostedSession) (stood : slice_get e.hosted at ≡ Some p) where
  pub walking_at : (o : HostedState) → p.place ≡ o → is_running (phase (of_session (at + 1) log)) ≡ is_under_way o
  walking_at o placed = ap is_running (phase_is e log h at p stood o placed) ∙ running_for o

pub is_walks : (c : SessionPhase) → is_running c ≡ true → c ≡ Running
is_walks Running b = refl
is_walks _ b = cc

-- if there is a session whose call is running, the index of one
pub starts_walking : (log : List Entry) (n : ℕ) → is_some_list (under_way_to log n) ≡ true → (at : ℕ) × (at < n) × (is_running (phase (of_session (at + 1) log)) ≡ true)
starts_walking log zero some = cc
starts_walking log (suc n) some = walking_or (starts_walking log n) (is_running (phase (of_session (suc n) log))) refl some
  where
    walking_or : (is_some_list (under_way_to log n) ≡ true → (at : ℕ) × (at < n) × (is_running (phase (of_session (at + 1) log)) ≡ true)) → (b : Bool) → is_running (phase (of_session (suc n) log)) ≡ b → is_some_list (under_way_to log n ++ (if b then suc n ∷ [] else [])) ≡ true → (at : ℕ) × (at < suc n) × (is_running (phase (of_session (at + 1) log)) ≡ true)
    walking_or again true is some' = (n, omega arith, ap (λ (k : ℕ). is_running (phase (of_session k log))) (add-one n) ∙ is)
    walking_or again false is some' =
        let before = again (ap is_some_list (sym (append-nil (under_way_to log n))) ∙ some') in
        (before.0, omega (arith, before.1), before.2)

-- ---- part of a round

-- the sessions up to a number have had their turns, and later ones are unchanged
pub record RoundLog (e : EngineView) (at : ℕ) (any : Bool) (e' : EngineView) (log : List Entry) : Type 0 where
  pub entries : List Entry
  pub steps : AllZip IsStepOf (under_way_to log at) entries
  pub has : HasLog e' (log ++ entries)
  pub later : (s : ℕ) → at < s → of_session s (log ++ entries) ≡ of_session s log
  pub opened : opened_in (log ++ entries) ≡ opened_in log
  pub some : any ≡ is_some_list (under_way_to log at)

abbrev pub RoundsSoFar : EngineView → ℕ → Bool → EngineView → Type 0
RoundsSoFar e at any e' = (log : List Entry) → HasLog e log → RoundLog e at any e' log

pub start_log : (e : EngineView) → RoundsSoFar e 0 false e
start_log e log h = record {
  entries = [];
  steps = tt;
  has = subst (λ (z : List Entry). HasLog e z) (sym (append-nil log)) h;
  later = λ s lt. ap (of_session s) (append-nil log);
  opened = ap opened_in (append-nil log);
  some = refl;
}

pub one_more : (log : List Entry) (at : ℕ) (b : Bool) → is_running (phase (of_session (at + 1) log)) ≡ b → under_way_to log (at + 1) ≡ under_way_to log at ++ (if b then (at + 1) ∷ [] else [])
one_more log at b is =
    let num : at + 1 ≡ suc at = add-one at in
    let P : ℕ → Type 0 = λ n. is_running (phase (of_session n log)) ≡ b → under_way_to log n ≡ under_way_to log at ++ (if b then n ∷ [] else []) in
    let here : P (suc at) = λ k. ap (λ (z : Bool). under_way_to log at ++ (if z then suc at ∷ [] else [])) k in
    subst P (sym num) here is

pub skips_log : (e : EngineView) (at : ℕ) (any : Bool) (e' : EngineView) → RoundsSoFar e at any e' → (p : HostedSession) → slice_get e'.hosted at ≡ Some p → is_under_way p.place ≡ false → RoundsSoFar e (at + 1) any e'
skips_log e at any e' so p stood rests log h =
    let k = so log h in
    let now = walking_at e' (log ++ k.entries) k.has at p stood p.place refl ∙ rests in
    let was = sym (ap (λ (t : SessionLog). is_running (phase t)) (k.later (at + 1) (omega arith))) ∙ now in
    let list : under_way_to log (at + 1) ≡ under_way_to log at = one_more log at false was ∙ append-nil (under_way_to log at) in record {
      entries = k.entries;
      steps = subst (λ (z : List ℕ). AllZip IsStepOf z k.entries) (sym list) k.steps;
      has = k.has;
      later = λ s lt. k.later s (omega (arith, lt));
      opened = k.opened;
      some = k.some ∙ ap is_some_list (sym list);
    }

pub steps_log : (e : EngineView) (at : ℕ) (any : Bool) (e' : EngineView) → RoundsSoFar e at any e' → (p : HostedSession) → slice_get e'.hosted at ≡ Some p → is_under_way p.place ≡ true → (r : Result Happened EngineFault) (e'' : EngineView)
    → AppendsEntry e' (event.Turn (at + 1) 0) r e'' → RoundsSoFar e (at + 1) true e''
steps_log e at any e' so p stood under r e'' turn log h =
    let k = so log h in
    let before = log ++ k.entries in
    let now = walking_at e' before k.has at p stood p.place refl ∙ under in
    let was = sym (ap (λ (t : SessionLog). is_running (phase t)) (k.later (at + 1) (omega arith))) ∙ now in
    let list : under_way_to log (at + 1) ≡ under_way_to log at ++ (at + 1) ∷ [] = one_more log at true was in
    let it = turn before k.has in
    let x = it.0 in
    let is_at : IsInPhase before (at + 1) Running = (known e' before k.has at p stood, is_walks (phase (of_session (at + 1) before)) now) in
    let lawful : IsLawful before x = it.3.kept.lawful before [] x refl in
    let step = walking_entry before (at + 1) x it.1 is_at lawful in
    let assoc : before ++ x ∷ [] ≡ log ++ (k.entries ++ x ∷ []) = append_assoc log k.entries (x ∷ []) in
    record {
      entries = k.entries ++ x ∷ [];
      steps = subst (λ (z : List ℕ). AllZip IsStepOf z (k.entries ++ x ∷ [])) (sym list) (zip_push IsStepOf (under_way_to log at) k.entries (at + 1) x k.steps (it.1, subst IsOk (sym step.ok) refl));
      has = subst (λ (z : List Entry). HasLog e'' z) assoc it.3;
      later = λ s lt. ap (of_session s) (sym assoc) ∙ other_push s before x (λ same. absurd (let num : s ≡ at + 1 = sym same ∙ step.is_of in omega (arith, num, lt))) ∙ k.later s (omega (arith, lt));
      opened = ap opened_in (sym assoc) ∙ opened_same before x step.opens ∙ k.opened;
      some = sym (ap is_some_list list ∙ some_push (under_way_to log at) (at + 1));
    }
  where
    opened_same : (front : List Entry) (x : Entry) → is_opening x ≡ false → opened_in (front ++ x ∷ []) ≡ opened_in front
    opened_same front x none = omega (arith, count_push is_opening front x, ap {B = ℕ} (λ (b : Bool). if b then 1 else 0) none)

pub whole_log : (e : EngineView) (at : ℕ) (any : Bool) (e' : EngineView) → RoundsSoFar e at any e' → at ≡ length e.hosted → AppendsRound e any e'
whole_log e at any e' so all log h =
    let k = so log h in
    let num : at ≡ opened_in log = all ∙ h.count in
    (k.entries, subst (λ (n : ℕ). AllZip IsStepOf (under_way_to log n) k.entries) num k.steps, k.has, k.some ∙ ap (λ (n : ℕ). is_some_list (under_way_to log n)) num)

-- ---- rounds

no_rounds : (log : List Entry) → AreRounds log []
unfolding AreRounds
no_rounds log = tt

push_round : (log : List Entry) (rounds : List (List Entry)) (round : List Entry) → AreRounds log rounds → under_way (log ++ flat_map (λ (r : List Entry). r) rounds) ≢ []
    → AllZip IsStepOf (under_way (log ++ flat_map (λ (r : List Entry). r) rounds)) round → AreRounds log (rounds ++ round ∷ [])
unfolding AreRounds
push_round log [] round are some steps =
    (subst (λ (z : List Entry). under_way z ≢ []) (append-nil log) some, subst (λ (z : List Entry). AllZip IsStepOf (under_way z) round) (append-nil log) steps, tt)
push_round log (first ∷ rounds) round are some steps =
    let same : (log ++ first) ++ flat_map (λ (r : List Entry). r) rounds ≡ log ++ flat_map (λ (r : List Entry). r) (first ∷ rounds) = append_assoc log first (flat_map (λ (r : List Entry). r) rounds) in
    (are.0, are.1, push_round (log ++ first) rounds round are.2 (subst (λ (z : List Entry). under_way z ≢ []) (sym same) some) (subst (λ (z : List Entry). AllZip IsStepOf (under_way z) round) (sym same) steps))

pub rounds_start : (e : EngineView) → AppendsRounds e 0 e
rounds_start e log h = ([], refl, no_rounds log, subst (λ (z : List Entry). HasLog e z) (sym (append-nil log)) h)

pub rounds_more : (n : ℕ) (e mid e' : EngineView) → AppendsRounds e n mid → AppendsRound mid true e' → AppendsRounds e (n + 1) e'
rounds_more n e mid e' so round log h =
    let k = so log h in
    let before = log ++ flat_map (λ (r : List Entry). r) k.0 in
    let it = round before k.3 in
    let parts : before ++ it.0 ≡ log ++ flat_map (λ (r : List Entry). r) (k.0 ++ it.0 ∷ []) =
    append_assoc log (flat_map (λ (r : List Entry). r) k.0) it.0
    ∙ ap (λ (z : List Entry). log ++ (flat_map (λ (r : List Entry). r) k.0 ++ z)) (sym (append-nil it.0))
    ∙ ap (λ (z : List Entry). log ++ z) (sym (flat_map-append (λ (r : List Entry). r) k.0 (it.0 ∷ []))) in
    let count = length-append k.0 (it.0 ∷ []) in (
      k.0 ++ it.0 ∷ [],
      omega (arith, count, k.1),
      push_round log k.0 it.0 k.2 (λ none. let z : true ≡ false = it.3 ∙ ap is_some_list none in absurd cc) it.1,
      subst (λ (z : List Entry). HasLog e' z) parts it.2,
    )

pub all_decided : (e e' : EngineView) → e' ≡ e → AppendsRound e false e' → AreDecided e'
all_decided e e' same round = subst AreDecided (sym same) (λ log h. none_listed (under_way log) (sym (round log h).3))

-- ---- events in order

pub run_start : (e : EngineView) → AppendsEvents e [] 0 e
run_start e log h = ([], refl, refl, subst (λ (z : List Entry). HasLog e z) (sym (append-nil log)) h)

pub run_more : (events : List Event) (ev : Event) (n : ℕ) (r : Result Happened EngineFault) (old mid new : EngineView) → AppendsEvents old events n mid → AppendsEntry mid ev r new → AppendsEvents old (events ++ ev ∷ []) (n + refusals r) new
run_more events ev n r old mid new so goes log h =
    let k = so log h in
    let it = goes (log ++ k.0) k.3 in
    let sum = sum_by-append (λ (x : Entry). refusals (result_of x)) k.0 (it.0 ∷ []) in
    let one = ap refusals it.2 in (
      k.0 ++ it.0 ∷ [],
      map-append event_of k.0 (it.0 ∷ []) ∙ ap (λ (z : List Event). z ++ event_of it.0 ∷ []) k.1 ∙ ap (λ (z : Event). events ++ z ∷ []) it.1,
      omega (arith, sum, k.2, one),
      subst (λ (z : List Entry). HasLog new z) (append_assoc log k.0 (it.0 ∷ [])) it.3,
    )

pub same_count : (e : EngineView) (at : ℕ) (any : Bool) (e' : EngineView) → RoundsSoFar e at any e' → (log : List Entry) → HasLog e log → length e'.hosted ≡ length e.hosted
same_count e at any e' so log h = let k = so log h in k.has.count ∙ k.opened ∙ sym h.count
