-- A session of an engine: open, feed, sent and close.
use Rattle.std.proofs.Common.{◌≡◌, ◌<◌, ◌≤◌, ℕ, ◌+◌, ◌-◌, List, [], ◌∷◌, ◌++◌, Bool, true, false, Option, Result, Ok, Err, length, refl, ap, sym, ◌∙◌, subst, inl, inr, append-nil, length-append, arith}
use Rattle.std.specs.Global.{Vec}
use Rattle.std.specs.Prelude.{if◌then◌else◌, IfOk, IfErr}
use Rattle.std.specs.Result.{is_ok}
use Rattle.std.proofs.KnownBytes.{Appends-nil}
use Rattle.sf_call.specs.declared.fault.JoinFault.{JoinFault}
use Rattle.sf_call.specs.declared.fault.JoinFault.TheVariants as join
use Rattle.sf_session.specs.Sessions.{join_refusal}
use Rattle.sf_session.specs.declared.fault.ServeFault.{ServeFault}
use Rattle.sf_session.specs.declared.fault.ServeFault.TheVariants as serve
use Rattle.sf_session.specs.Responses.{Response, transcript, answered_in}
use Rattle.sf_session.specs.SessionStates.{Phase, Resting, Gone, SessionState, new_state, fed, closed_now, pending}
use Rattle.sf_engine.specs.declared.event.Event.{Event}
use Rattle.sf_engine.specs.declared.event.Event.TheVariants as event
use Rattle.sf_engine.specs.declared.event.Happened.{Happened}
use Rattle.sf_engine.specs.declared.event.Happened.TheVariants as happened
use Rattle.sf_engine.specs.declared.event.EngineFault.{EngineFault}
use Rattle.sf_engine.specs.declared.event.EngineFault.TheVariants as fault
use Rattle.sf_engine.specs.Views.{EngineView}
use Rattle.sf_engine.specs.Promise.{Entry, SessionOpened, BytesFed, SessionClosed, BytesSent, EventRefused, event_of, result_of, is_opening, opened_in, SessionLog, new_log, with_own, of_session, SessionPhase, WithoutCall, phase_at, phase, IsKnown, IsLawful, MayBeRefused}
use Rattle.sf_engine.specs.HasLog.{HasLog, engine_fault, AppendsEntry}
use Rattle.sf_engine.proofs.Laws.{own_push, count_push}
use Rattle.sf_connection.specs.Hosts.{IsFront, with_sent, ended}
use Rattle.sf_connection.specs.Progress.{Progress, IsStopped, IsStop}
use Rattle.sf_connection.proofs.Laws.{none_written, ended_same}
use Rattle.sf_connection.specs.declared.connection.Connection.{Connection}
use Rattle.sf_connection.specs.declared.connection.Wants.TheVariants.{Ended}
use Rattle.sf_connection.specs.Connections.{Returns}
use Rattle.sf_connection.specs.Waits.{WaitsPromptly}
use Rattle.sf_alone.specs.OnEngine.{HasCall, IsOf, moment_of, AreTimed, IsLowAt, AreLow, engine_held, has_left, IsStateOf, Since, since_at, IoState, IsToldBy, Feeds, Applies, HasOutput, ServesLine, HasStoppedAt, MayNotOpen, IsServeFault, StopsEarly}
use Rattle.sf_session.specs.declared.cause.Cause.{Cause}
use Rattle.sf_alone.proofs.Entries.{Added, extended}

-- the event of an entry that is no turn
quiet_added : (s : ℕ) (log : List Entry) (x : Entry) (ev : Event) (r : Result Happened EngineFault) → event_of x ≡ ev → result_of x ≡ r → IsOf s ev r → moment_of ev ≡ [] → ((l : SessionLog) → IsLowAt l ev) → Added s log (x ∷ []) []
unfolding AreLow AreTimed
quiet_added s log x ev r e is own quiet low = record {
  own = (subst (λ (z : Event). IsOf s z (result_of x)) (sym e) (subst (λ (z : Result Happened EngineFault). IsOf s ev z) (sym is) own), tt);
  low = (subst (λ (z : Event). IsLowAt (of_session s log) z) (sym e) (low (of_session s log)), tt);
  timed = ([], [], refl, inl (sym (ap moment_of e ∙ quiet)), refl);
}

-- why an event was refused
refused_by : (log : List Entry) (x : Entry) (ev : Event) (f : EngineFault) → event_of x ≡ ev → result_of x ≡ Err f → IsLawful log x → MayBeRefused log ev f
refused_by log (EventRefused ev' f') ev f e is lawful =
    let same : f' ≡ f = cc in
    subst (λ (z : Event). MayBeRefused log z f) e (subst (λ (z : EngineFault). MayBeRefused log ev' z) same lawful)
refused_by log _ ev f e is lawful = cc

-- ---- open

opened_state : (log : List Entry) (s : ℕ) (x : Entry) → event_of x ≡ event.Open → result_of x ≡ Ok (happened.Opened s) → IsLawful log x → ((z : ℕ) → 0 < z → opened_in log < z → of_session z log ≡ new_log)
    → IsKnown (log ++ x ∷ []) s × IsStateOf (of_session s (log ++ x ∷ [])) new_state
opened_state log s (SessionOpened z) e is lawful nobody =
    let own : z ≡ s = cc in
    let number : s ≡ opened_in log + 1 = sym own ∙ lawful.0 in
    let x = SessionOpened z in
    let l : of_session s (log ++ x ∷ []) ≡ with_own new_log x = own_push s log x own ∙ ap (λ (l : SessionLog). with_own l x) (nobody s (omega (arith, number)) (omega (arith, number))) in
    let state : IsStateOf (with_own new_log x) new_state = record { stream = refl; answers = refl; sent = refl; front = ([], none_written); closed = λ left. refl; left = refl; begun = refl; call = tt } in
    ((omega (arith, number), omega (arith, number, count_push is_opening log x)), subst (λ (z : SessionLog). IsStateOf z new_state) (sym l) state)
opened_state log s _ e is lawful nobody = cc

opened : (start : Since) (e' : EngineView) (s : ℕ) → AppendsEntry start.engine event.Open (Ok (happened.Opened s)) e' → IsToldBy 0 start s e' start.told new_state
opened start e' s goes =
    let g = goes start.log start.has in
    let x = g.0 in
    let added = quiet_added s start.log x event.Open (Ok (happened.Opened s)) g.1 g.2 refl refl (λ l. tt) in
    let is = opened_state start.log s x g.1 g.2 (g.3.kept.lawful start.log [] x refl) (λ z pos past. (start.has.nobody z pos past).none) in (
      record {
        later = record {
          log = start.log ++ x ∷ [];
          has = g.3;
          entries = x ∷ [];
          since = refl;
          known = is.0;
          own = added.own;
          low = added.low;
          moments = [];
          timed = added.timed;
          clock = Appends-nil start.told;
        };
        state = is.1;
      },
      omega arith,
    )

pub opened_by : (start : Since) (e' : EngineView) (s turns s' : ℕ) → turns ≡ 0 → s' ≡ s → AppendsEntry start.engine event.Open (Ok (happened.Opened s)) e' → IsToldBy turns start s' e' start.told new_state
opened_by start e' s turns s' none same goes =
    subst (λ (n : ℕ). IsToldBy n start s' e' start.told new_state) (sym none) (subst (λ (n : ℕ). IsToldBy 0 start n e' start.told new_state) (sym same) (opened start e' s goes))

-- why none opened
may_not_open : (log : List Entry) (f : JoinFault) → MayBeRefused log event.Open (engine_fault f) → MayNotOpen log (join_refusal f)
may_not_open log join.OutOfMemory may = tt
may_not_open log join.Sessions may = may
may_not_open log join.NumbersSpent may = may.1

pub not_opened : (e e' : EngineView) (f : JoinFault) → AppendsEntry e event.Open (Err (engine_fault f)) e' → (log : List Entry) → HasLog e log → MayNotOpen log (join_refusal f)
not_opened e e' f goes log has = let g = goes log has in may_not_open log f (refused_by log g.0 event.Open (engine_fault f) g.1 g.2 (g.3.kept.lawful log [] g.0 refl))

-- ---- one event that is no turn

event_on : {turns : ℕ} {start : Since} {s : ℕ} {e e' : EngineView} {tl : Option (List ℕ)} {t t' : SessionState} (ev : Event) (r : Result Happened EngineFault) → IsToldBy turns start s e tl t → AppendsEntry e ev r e' → IsOf s ev r → moment_of ev ≡ [] → ((l : SessionLog) → IsLowAt l ev)
    → ((log : List Entry) (x : Entry) → event_of x ≡ ev → result_of x ≡ r → IsKnown log s → IsLawful log x → HasLog e log → IsStateOf (of_session s log) t → IsStateOf (of_session s (log ++ x ∷ [])) t') → IsToldBy turns start s e' tl t'
event_on {s = s} {e' = e'} {tl = tl} ev r T goes own quiet low next =
    let h = T.0.later in
    let g = goes h.log h.has in
    let x = g.0 in (
      record {
        later = extended h (x ∷ []) [] g.3 (Appends-nil tl) (quiet_added s h.log x ev r g.1 g.2 own quiet low);
        state = next h.log x g.1 g.2 h.known (g.3.kept.lawful h.log [] x refl) h.has T.0.state;
      },
      omega (arith, T.1, length-append h.entries (x ∷ [])),
    )

fed_state : (s : ℕ) (t : SessionState) (bytes : Vec ℕ) (r : Happened) (log : List Entry) (x : Entry) → event_of x ≡ event.Feed s bytes → result_of x ≡ Ok r → IsStateOf (of_session s log) t → IsStateOf (of_session s (log ++ x ∷ [])) (fed t bytes.items)
fed_state s t bytes r log (BytesFed z b) e is h =
    let own : z ≡ s = cc in
    let same : b ≡ bytes = cc in
    let l = of_session s log in
    let stream : t.stream ++ bytes.items ≡ l.fed ++ b.items = ap (λ (f : List ℕ). f ++ bytes.items) h.stream ∙ ap (λ (v : Vec ℕ). l.fed ++ v.items) (sym same) in
    let now : IsStateOf (with_own l (BytesFed z b)) (fed t bytes.items) = record { stream = stream; answers = h.answers; sent = h.sent; front = h.front; closed = h.closed; left = h.left; begun = h.begun; call = h.call } in
    subst (λ (z : SessionLog). IsStateOf z (fed t bytes.items)) (sym (own_push s log (BytesFed z b) own)) now
fed_state s t bytes r log _ e is h = cc

pub fed_on : {turns : ℕ} {start : Since} {s : ℕ} {e e' : EngineView} {tl : Option (List ℕ)} {t : SessionState} {bytes : List ℕ} → IsToldBy turns start s e tl t → Feeds e s bytes e' → IsToldBy turns start s e' tl (fed t bytes)
fed_on {turns} {start} {s} {e} {e'} {tl} {t} T feeds =
    subst (λ (b : List ℕ). IsToldBy turns start s e' tl (fed t b)) feeds.1
    (event_on (event.Feed s feeds.0) (Ok feeds.2) T feeds.3 refl refl (λ l. tt) (λ log x e is known lawful has h. fed_state s t feeds.0 feeds.2 log x e is h))

-- ---- close

-- the event of an entry is not refused, if it may not be
not_refused : (log : List Entry) (x : Entry) (ev : Event) → event_of x ≡ ev → IsLawful log x → ((f : EngineFault) → MayBeRefused log ev f → ⊥) → is_ok (result_of x) ≡ true
not_refused log (EventRefused ev' f) ev e lawful never = absurd (never f (subst (λ (z : Event). MayBeRefused log z f) e lawful))
not_refused log _ ev e lawful never = refl

not_closed_off : (log : List Entry) (s : ℕ) (f : EngineFault) → IsKnown log s → MayBeRefused log (event.Close s) f → ⊥
not_closed_off log s fault.NoSuchSession known h = h known
not_closed_off log s f known h = h

abbrev is_at_rest : SessionPhase → Bool
is_at_rest WithoutCall = true
is_at_rest _ = false

not_at_rest : (p : SessionPhase) → (p ≡ WithoutCall → ⊥) → false ≡ is_at_rest p
not_at_rest WithoutCall no_rest = absurd (no_rest refl)
not_at_rest p no_rest = refl

-- a session leaves as it is closed, if it has no call
leaves_by : (log : List Entry) (s : ℕ) (leaves : Bool) → IsLawful log (SessionClosed s leaves) → leaves ≡ is_at_rest (phase (of_session s log))
leaves_by log s true lawful = sym (ap is_at_rest lawful.1)
leaves_by log s false lawful = not_at_rest (phase (of_session s log)) lawful.1

module _ (l : SessionLog) (t : SessionState) (h : IsStateOf l t) (s : ℕ) (leaves : Bool) (is : leaves ≡ is_at_rest (phase l)) where
  record IsEnded (t' : SessionState) : Type 0 where
    closed : (if leaves then true else l.left) ≡ false → t'.closed ≡ true
    left : (if leaves then true else l.left) ≡ has_left t'.phase
    begun : l.begun ≡ length (answered_in l.wrote) + length (pending t'.phase)
    call : HasCall t'.phase l.call

  at_phase : (left : Bool) (n : ℕ) → l.left ≡ left → l.begun - length (answered_in l.wrote) ≡ n → leaves ≡ is_at_rest (phase_at left n l.call.decided)
  at_phase left n a b = is ∙ ap (λ (c : Bool). is_at_rest (phase_at c (l.begun - length (answered_in l.wrote)) l.call.decided)) a ∙ ap (λ (k : ℕ). is_at_rest (phase_at left k l.call.decided)) b

  busy : (d : Bool) → is_at_rest (phase_at false 1 d) ≡ false
  busy true = refl
  busy false = refl

  ended_at : (f : Phase) → t.phase ≡ f → IsEnded (closed_now t f)
  ended_at Resting at =
      let begun : l.begun ≡ length (answered_in l.wrote) + 0 = h.begun ∙ ap (λ (p : Phase). length (answered_in l.wrote) + length (pending p)) at in
      let gone : leaves ≡ true = at_phase false 0 (h.left ∙ ap has_left at) (omega (arith, begun)) in
      let left : (if leaves then true else l.left) ≡ true = ap (λ (b : Bool). if b then true else l.left) gone in
      record { closed = λ here. absurd (let no : true ≡ false = sym left ∙ here in cc); left = left; begun = begun; call = tt }
  ended_at (Gone c) at =
      let away : l.left ≡ true = h.left ∙ ap has_left at in
      let left : (if leaves then true else l.left) ≡ true = either leaves away in
      record { closed = λ here. absurd (let no : true ≡ false = sym left ∙ here in cc); left = left ∙ sym (ap has_left at); begun = h.begun; call = h.call }
    where
      either : (b : Bool) → l.left ≡ true → (if b then true else l.left) ≡ true
      either true e = refl
      either false e = e
  ended_at f at =
      let begun : l.begun ≡ length (answered_in l.wrote) + 1 = h.begun ∙ ap (λ (p : Phase). length (answered_in l.wrote) + length (pending p)) at in
      let stays : leaves ≡ false = at_phase false 1 (h.left ∙ ap has_left at) (omega (arith, begun)) ∙ busy l.call.decided in
      record { closed = λ here. refl; left = ap (λ (b : Bool). if b then true else l.left) stays ∙ h.left; begun = h.begun; call = h.call }

  ended_state : IsStateOf (with_own l (SessionClosed s leaves)) (ended t)
  ended_state =
      let same = ended_same t in
      let at = ended_at t.phase refl in
      record {
        stream = same.stream ∙ h.stream;
        answers = same.answers ∙ h.answers;
        sent = ap (λ (b : List ℕ). length b) same.sent ∙ h.sent;
        front = subst (λ (w : List Response). IsFront (ended t).sent (transcript w)) (sym same.answers) (subst (λ (b : List ℕ). IsFront b (transcript t.answers)) (sym same.sent) h.front);
        closed = at.closed;
        left = at.left;
        begun = at.begun;
        call = at.call;
      }

closed_state : (s : ℕ) (t : SessionState) (log : List Entry) (x : Entry) → event_of x ≡ event.Close s → is_ok (result_of x) ≡ true → IsLawful log x → IsStateOf (of_session s log) t → IsStateOf (of_session s (log ++ x ∷ [])) (ended t)
closed_state s t log (SessionClosed z leaves) e ok lawful h =
    let own : z ≡ s = cc in
    let rests : leaves ≡ is_at_rest (phase (of_session s log)) = leaves_by log z leaves lawful ∙ ap (λ (n : ℕ). is_at_rest (phase (of_session n log))) own in
    subst (λ (l : SessionLog). IsStateOf l (ended t)) (sym (own_push s log (SessionClosed z leaves) own)) (ended_state (of_session s log) t h z leaves rests)
closed_state s t log _ e ok lawful h = cc

pub closed_on : {turns : ℕ} {start : Since} {s : ℕ} {e e' : EngineView} {tl : Option (List ℕ)} {t : SessionState} → IsToldBy turns start s e tl t → Applies e (event.Close s) e' → IsToldBy turns start s e' tl (ended t)
closed_on {s = s} {t = t} T applies = event_on (event.Close s) applies.0 T applies.1 refl refl (λ l. tt) (λ log x e is known lawful has h. closed_state s t log x e (not_refused log x (event.Close s) e lawful (λ f. not_closed_off log s f known)) lawful h)

-- ---- sent

-- what is unsent follows what was sent
same_front : (a b c d : List ℕ) → length a ≡ length b → a ++ c ≡ b ++ d → c ≡ d
same_front [] [] c d n e = e
same_front (x ∷ a) (y ∷ b) c d n e = same_front a b c d (omega (arith, n)) cc
same_front _ _ c d n e = cc

-- the unsent output of a session that is served
pub output_here : {turns : ℕ} {start : Since} {s : ℕ} {e : EngineView} {tl : Option (List ℕ)} {t : SessionState} (output : List ℕ) → IsToldBy turns start s e tl t → HasOutput e s output → transcript t.answers ≡ t.sent ++ output
output_here {t = t} output T waits =
    let h = T.0.state in
    let u = waits T.0.later.log T.0.later.has T.0.later.known in
    let whole : t.sent ++ h.front.0 ≡ u.sent ++ output = sym h.front.1 ∙ ap transcript h.answers ∙ u.packets in
    h.front.1 ∙ ap (λ (b : List ℕ). t.sent ++ b) (same_front t.sent u.sent h.front.0 output (h.sent ∙ sym u.count_is) whole)

not_unsent : (log : List Entry) (s n : ℕ) (f : EngineFault) → IsKnown log s → (of_session s log).sent + n ≤ length (transcript (of_session s log).wrote) → MayBeRefused log (event.Sent s n) f → ⊥
not_unsent log s n fault.NoSuchSession known few h = h known
not_unsent log s n fault.NotSent known few h = omega (arith, few, h.1)
not_unsent log s n f known few h = h

sent_state : (s n : ℕ) (t : SessionState) (log : List Entry) (x : Entry) → event_of x ≡ event.Sent s n → is_ok (result_of x) ≡ true → length (transcript (of_session s log).wrote) ≡ (of_session s log).sent + n → IsStateOf (of_session s log) t
    → IsStateOf (of_session s (log ++ x ∷ [])) (with_sent t)
sent_state s n t log (BytesSent z k) e ok all h =
    let own : z ≡ s = cc in
    let count : k ≡ n = cc in
    let l = of_session s log in
    let sent : length (transcript t.answers) ≡ l.sent + k = ap (λ (w : List Response). length (transcript w)) h.answers ∙ all ∙ ap (λ (i : ℕ). l.sent + i) (sym count) in
    let now : IsStateOf (with_own l (BytesSent z k)) (with_sent t) = record { stream = h.stream; answers = h.answers; sent = sent; front = ([], sym (append-nil (transcript t.answers))); closed = h.closed; left = h.left; begun = h.begun; call = h.call } in
    subst (λ (z : SessionLog). IsStateOf z (with_sent t)) (sym (own_push s log (BytesSent z k) own)) now
sent_state s n t log _ e ok all h = cc

pub sent_on : {turns : ℕ} {start : Since} {s n : ℕ} {e e' : EngineView} {tl : Option (List ℕ)} {t : SessionState} (output : List ℕ) → IsToldBy turns start s e tl t → HasOutput e s output → n ≡ length output → Applies e (event.Sent s n) e'
    → IsToldBy turns start s e' tl (with_sent t)
sent_on {s = s} {n = n} {t = t} output T waits count applies =
    event_on (event.Sent s n) applies.0 T applies.1 refl refl (λ l. tt) (λ log x e is known lawful has h.
    let u = waits log has known in
    let all : length (transcript (of_session s log).wrote) ≡ (of_session s log).sent + n = omega (arith, ap (λ (b : List ℕ). length b) u.packets, length-append u.sent output, u.count_is, count) in
    sent_state s n t log x e (not_refused log x (event.Sent s n) e lawful (λ f. not_unsent log s n f known (omega (arith, all)))) all h)

-- ---- a stream

stopped_at : (f : ServeFault) (failed failed' turns : ℕ) (p : Progress) (entries : List Entry) → turns ≤ length entries → IsStop f failed failed' → IsStopped f turns p → HasStoppedAt f entries p
stopped_at serve.Line failed failed' turns p entries few why h = h.closed
stopped_at serve.OutOfMemory failed failed' turns p entries few why h = (h.written (λ e. cc), h.closed)
stopped_at serve.NumbersSpent failed failed' turns p entries few why h = ((h.written (λ e. cc), h.closed), elim h.spent [ inl most ↦ inl most | inr most ↦ inr (omega (arith, most, few)) ])
stopped_at _ failed failed' turns p entries few why h = why

serve_fault : (f : ServeFault) (failed failed' : ℕ) → IsStop f failed failed' → IsServeFault f failed failed'
serve_fault serve.Line failed failed' h = h
serve_fault f failed failed' h = tt

-- an engine served a session over a stream, with this outcome
abbrev pub WasServed : {H S : Type 0} → Connection H S → Progress → (start now : IoState) → (turns s : ℕ) → Result Cause ServeFault → Type 0
WasServed c p₀ start now turns s r = (log : List Entry) → (has : HasLog start.engine log)
    → (p : Progress) × IsToldBy turns (since_at start log has) s now.engine now.told p.state × WaitsPromptly start.stream start.waits now.waits × Returns (Ended r) engine_held turns start.stream now.stream c p₀ p

pub serves_line : {H S : Type 0} (c : Connection H S) (p₀ : Progress) (start now : IoState) (turns s : ℕ) (r : Result Cause ServeFault) → WasServed c p₀ start now turns s r → IfOk r (λ cause. ServesLine start now cause)
serves_line c p₀ start now turns s (Ok cause) was = λ log has. let x = was log has in (s, x.0, x.1.0, x.3.0, x.3.1, x.2)
serves_line c p₀ start now turns s (Err f) was = tt

pub stops_early : {H S : Type 0} (c : Connection H S) (p₀ : Progress) (start now : IoState) (turns s : ℕ) (r : Result Cause ServeFault) → WasServed c p₀ start now turns s r → IfErr r (λ f. StopsEarly start now f)
stops_early c p₀ start now turns s (Ok cause) was = tt
stops_early c p₀ start now turns s (Err f) was = λ log has.
    let x = was log has in
    let failed = start.stream.failed in
    let failed' = now.stream.failed in
    inr (s, x.0, x.1.0, x.3.0, stopped_at f failed failed' turns x.0 x.1.0.later.entries x.1.1 x.3.2 x.3.1, serve_fault f failed failed' x.3.2, x.2)
