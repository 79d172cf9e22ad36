-- How the turns of a session end.
use Rattle.std.proofs.Common.{◌≡◌, ◌≢◌, ◌<◌, ◌≤◌, ℕ, List, [], ◌∷◌, ◌++◌, length, map, Option, Bool, true, false, Result, Ok, Err, refl, ap, sym, ◌∙◌, subst, inl, inr, ◌+◌, append-nil, append_assoc, length-append, arith}
use Rattle.std.specs.List.{AllByRecursion, flat_map}
use Rattle.std.specs.Prelude.{if◌then◌else◌, nat_eq}
use Rattle.std.proofs.lemmas.List.{length-map}
use Rattle.sf_field.specs.Fields.{packet}
use Rattle.sf_wire.specs.declared.cutting.Cut.TheVariants as cut
use Rattle.sf_wire.specs.Packets.{IsBody, IsCut}
use Rattle.sf_wire.proofs.Laws.{one_packet}
use Rattle.sf_call.specs.declared.record.Record.{Record}
use Rattle.sf_call.specs.declared.record.Record.TheVariants.{Did, Left}
use Rattle.sf_call.specs.Histories.{IsAmong, IsLegal}
use Rattle.sf_call.proofs.Laws.{given_before, packet_short}
use Rattle.sf_session.specs.declared.asking.Ask.{Ask}
use Rattle.sf_session.specs.declared.cause.Cause.{Cause}
use Rattle.sf_session.specs.declared.cause.Cause.TheVariants.{Closed}
use Rattle.sf_session.specs.declared.fault.ServeFault.{ServeFault}
use Rattle.sf_session.specs.Sessions.{EndsBy}
use Rattle.sf_session.specs.Responses.{Response, Version, Locally, ByCall, Refused, ask_behind, transcript, has_begun, AreAsked, RepliedCall, recorded_in, answered_in, if_so, Due, NothingDue, Unrecorded, Recorded, asked_due, recorded_due}
use Rattle.sf_session.specs.SessionStates.{Phase, Resting, UnderWay, Gone, SessionState, pending, IsRest, IsRead, HasShortPacket}
use Rattle.sf_session.proofs.Laws.{version_short, local_short, refusal_short, asked_each, not_closed}
use Rattle.sf_engine.specs.declared.event.Event.TheVariants as event
use Rattle.sf_engine.specs.declared.event.Happened.{Happened}
use Rattle.sf_engine.specs.declared.event.Happened.TheVariants as happened
use Rattle.sf_engine.specs.declared.event.EngineFault.{EngineFault}
use Rattle.sf_engine.specs.Views.{EngineView}
use Rattle.sf_engine.specs.Promise.{Entry, ReplyWritten, SessionIdle, SessionEnded, EventRefused, event_of, result_of, linearization, CallLog, SessionLog, of_session, IsAnswered, IsUnsent, IsLawful}
use Rattle.sf_engine.specs.HasLog.{WantsBytes}
use Rattle.sf_connection.specs.Ends.{IsWhole}
use Rattle.sf_connection.specs.Hosts.{IsFront, IsOpen, HasSent, IsBatch, IsFurther, IsSessionStep}
use Rattle.sf_connection.specs.declared.host.SessionStep.{SessionStep}
use Rattle.sf_connection.specs.declared.host.SessionStep.TheVariants as step
use Rattle.sf_connection.proofs.Laws.{transcript_append, rest_asked, whole_left}
use Rattle.sf_alone.specs.OnEngine.{engine_held, has_left, HasCall, IsStateOf, Since, HasEntries, IsToldBy, HasOutput, Turns, may_begin_after}
use Rattle.sf_alone.proofs.Entries.{all_join}
use Rattle.sf_alone.proofs.Turning.{after, MayBegin, Turned, MayTurn, Stepped, turned_none, first_turn, turns_on, part_after, answers_after, lawful_after, turned_after, may_turn}

-- ---- no packet is longer than the longest of a reply

abbrev IsShort : RepliedCall → Type 0
IsShort c = (id : ℕ) → HasShortPacket (ByCall id c.number c.request c.reply)

so_short : (b : Bool) (c : RepliedCall) → IsShort c → AllByRecursion IsShort (if_so b (c ∷ []))
so_short true c h = (h, tt)
so_short false c h = tt

calls_short : (s : ℕ) (whole : List Record) → IsLegal whole → (h : List Record) → ((r : Record) → IsAmong r h → IsAmong r whole) → AllByRecursion IsShort (recorded_in s h)
unfolding IsAmong
calls_short s whole legal [] among = tt
calls_short s whole legal (Left z ∷ h) among = calls_short s whole legal h (λ r is. among r (inr is))
calls_short s whole legal (Did n z m q given ∷ h) among =
    all_join IsShort (if_so (nat_eq z s) (record { number = n; request = q; reply = given } ∷ [])) (recorded_in s h) (so_short (nat_eq z s) (record { number = n; request = q; reply = given }) (λ id. packet_short n z id given (given_before n z m q given whole legal (among (Did n z m q given) (inl refl)))))
    (calls_short s whole legal h (λ r is. among r (inr is)))

all_front : {A : Type 0} (P : A → Type 0) (xs ys : List A) → AllByRecursion P (xs ++ ys) → AllByRecursion P xs
all_front P [] ys h = tt
all_front P (x ∷ xs) ys h = (h.0, all_front P xs ys h.1)

answers_short : (begun : Bool) (bodies : List (List ℕ)) (answers : List Response) (more : List Ask) → AreAsked begun bodies (map ask_behind answers ++ more) → AllByRecursion IsShort (answered_in answers) → AllByRecursion HasShortPacket answers
unfolding AreAsked
answers_short begun bodies [] more asked calls = tt
answers_short begun [] (a ∷ answers) more asked calls = absurd asked
answers_short begun (body ∷ bodies) (Version ∷ answers) more asked calls = (version_short, answers_short true bodies answers more asked.1 calls)
answers_short begun (body ∷ bodies) (Locally id given ∷ answers) more asked calls = (local_short begun body id given asked.0, answers_short true bodies answers more asked.1 calls)
answers_short begun (body ∷ bodies) (ByCall id n q given ∷ answers) more asked calls = (calls.0 id, answers_short true bodies answers more asked.1 calls.1)
answers_short begun (body ∷ bodies) (Refused id q f ∷ answers) more asked calls = (refusal_short id f, answers_short true bodies answers more asked.1 calls)

last_of_all : {A : Type 0} (P : A → Type 0) (xs : List A) (x : A) → AllByRecursion P (xs ++ x ∷ []) → P x
last_of_all P [] x all = all.0
last_of_all P (y ∷ xs) x all = last_of_all P xs x all.1

-- ---- the bodies that were processed

-- of two lists of packets of the same bytes, the shorter one is a prefix
front_bodies : (xs ys : List (List ℕ)) (a b : List ℕ) → AllByRecursion IsBody xs → AllByRecursion IsBody ys → length xs ≤ length ys → flat_map packet xs ++ a ≡ flat_map packet ys ++ b → IsFront xs ys
front_bodies [] ys a b h k few e = (ys, refl)
front_bodies (x ∷ xs) [] a b h k few e = absurd (omega (arith, few))
front_bodies (x ∷ xs) (y ∷ ys) a b h k few e =
    let front = flat_map packet xs ++ a in
    let back = flat_map packet ys ++ b in
    let first = one_packet x y front back h.0 k.0 (sym (append_assoc (packet x) (flat_map packet xs) a) ∙ e ∙ append_assoc (packet y) (flat_map packet ys) b) in
    let rest = front_bodies xs ys a b h.1 k.1 (omega (arith, few)) first.1 in
    (rest.0, ap (λ (z : List ℕ). z ∷ ys) (sym first.0) ∙ ap (λ (zs : List (List ℕ)). x ∷ zs) rest.1)

-- ---- the state after the last turn

-- the phase and the unread bytes
pub record Settles (l : SessionLog) (due : Due) (begun : Bool) (phase : Phase) (unread remainder : List ℕ) : Type 0 where
  pub left : l.left ≡ has_left phase
  pub pending : pending phase ≡ asked_due due
  pub call : HasCall phase l.call
  pub rest : IsRest begun phase unread remainder

abbrev pub due_phase : CallLog → Due → Phase
due_phase c NothingDue = Resting
due_phase c (Unrecorded id q) = UnderWay id c.number c.moment q c.moves
due_phase c (Recorded id x) = UnderWay id c.number c.moment x.request c.moves

by_due : (l : SessionLog) (due : Due) (begun : Bool) (rest : List ℕ) → l.left ≡ false → Settles l due begun (due_phase l.call due) rest rest
by_due l NothingDue begun rest left = record { left = left; pending = refl; call = tt; rest = refl }
by_due l due begun rest left = record { left = left; pending = refl; call = (refl, refl, refl); rest = refl }

abbrev pub state_at : SessionState → (l : SessionLog) {rs : List RepliedCall} → IsAnswered l rs → Phase → List ℕ → SessionState
state_at t l a phase unread = record {
  stream = l.fed;
  unread = unread;
  bodies = a.bodies;
  answers = l.wrote;
  sent = t.sent;
  closed = false;
  phase = phase;
}

module _ (t : SessionState) (is_open : IsOpen t) (read : IsRead t) (sent : HasSent t) (l : SessionLog) (s : ℕ) (h : List Record) (legal : IsLegal h) (turned : Turned t l) (a : IsAnswered l (recorded_in s h)) (phase : Phase) (unread : List ℕ)
    (settles : Settles l a.due (has_begun a.bodies) phase unread a.rest) where
  state_is : IsStateOf l (state_at t l a phase unread)
  state_is = record {
    stream = refl;
    answers = refl;
    sent = turned.sent;
    front = (transcript turned.wrote.0, ap transcript turned.wrote.1 ∙ transcript_append t.answers turned.wrote.0 ∙ ap (λ (b : List ℕ). b ++ transcript turned.wrote.0) (sym sent));
    closed = λ left. sym turned.closed;
    left = settles.left;
    begun = a.begun ∙ ap (λ (asks : List Ask). length (answered_in l.wrote) + length asks) (sym settles.pending);
    call = settles.call;
  }

  more_bodies : IsFront t.bodies a.bodies
  more_bodies =
      let were = asked_each false t.bodies (map ask_behind t.answers) (rest_asked t is_open.rests read) in
      let are = asked_each false a.bodies (map ask_behind l.wrote ++ asked_due a.due) a.asked in
      let wrote : length l.wrote ≡ length t.answers + length turned.wrote.0 = ap (λ (w : List Response). length w) turned.wrote.1 ∙ length-append t.answers turned.wrote.0 in
      front_bodies t.bodies a.bodies read.rest a.rest read.are_bodies a.are_bodies (omega (arith, were, are, wrote, length-map t.answers ask_behind, length-map l.wrote ask_behind, length-append (map ask_behind l.wrote) (asked_due a.due)))
      (sym read.stream ∙ turned.fed ∙ a.fed)

  batch : IsBatch engine_held turned.wrote.0
  batch before last e =
      let made : l.wrote ≡ (t.answers ++ before) ++ last ∷ [] = turned.wrote.1 ∙ ap (λ (w : List Response). t.answers ++ w) e ∙ sym (append_assoc t.answers before (last ∷ [])) in
      let bytes : length (transcript (t.answers ++ before)) ≡ length (transcript t.answers ++ transcript before) = ap (λ (b : List ℕ). length b) (transcript_append t.answers before) in
      let calls = subst (λ (cs : List RepliedCall). AllByRecursion IsShort cs) a.calls (calls_short s h legal h (λ r is. is)) in
      let short = answers_short false a.bodies l.wrote (asked_due a.due) a.asked (all_front IsShort (answered_in l.wrote) (recorded_due a.due) calls) in (
        omega (arith, turned.few (t.answers ++ before) last made, bytes, ap (λ (b : List ℕ). length b) sent, turned.sent, length-append (transcript t.answers) (transcript before)),
        last_of_all HasShortPacket (t.answers ++ before) last (subst (λ (w : List Response). AllByRecursion HasShortPacket w) made short),
      )

  further : IsFurther engine_held t (state_at t l a phase unread)
  further = record {
    stream = sym turned.fed;
    sent = refl;
    bodies = more_bodies;
    answers = turned.wrote;
    batch = batch;
    read = record {
      rest = a.rest;
      are_bodies = a.are_bodies;
      stream = a.fed;
      left = settles.rest;
      asked = subst (λ (asks : List Ask). AreAsked false a.bodies (map ask_behind l.wrote ++ asks)) (sym settles.pending) a.asked;
    };
  }

-- what the backend's contract requires of `go_on`
abbrev pub GoneOn : (turns : ℕ) → Since → ℕ → EngineView → Option (List ℕ) → Result SessionStep ServeFault → SessionState → Type 0
GoneOn turns start s e tl r t = (t' : SessionState) × IsToldBy turns start s e tl t' × IsFurther engine_held t t' × IsSessionStep r t t'

-- the end of turns
record IsEnding (t : SessionState) (l : SessionLog) (rs : List RepliedCall) (w : Result SessionStep ServeFault) : Type 0 where
  answered : IsAnswered l rs
  phase : Phase
  unread : List ℕ
  settles : Settles l answered.due (has_begun answered.bodies) phase unread answered.rest
  step : IsRead (state_at t l answered phase unread) → IsSessionStep w t (state_at t l answered phase unread)

ends_so : {turns : ℕ} {start : Since} {s : ℕ} {e : EngineView} {tl : Option (List ℕ)} {t : SessionState} (w : Result SessionStep ServeFault) (later : HasEntries start s e tl) (l : SessionLog) → turns ≤ length later.entries → of_session s later.log ≡ l → Turned t l → IsOpen t → IsRead t → HasSent t
    → IsEnding t l (recorded_in s (linearization later.log)) w → GoneOn turns start s e tl w t
ends_so {s = s} {t = t} w later l count same turned is_open read sent g =
    let h = linearization later.log in
    let legal = later.has.kept.linearizable.legal in
    let state = state_is t is_open read sent l s h legal turned g.answered g.phase g.unread g.settles in
    let more = further t is_open read sent l s h legal turned g.answered g.phase g.unread g.settles in
    let t' = state_at t l g.answered g.phase g.unread in
    (t', (record { later = later; state = subst (λ (z : SessionLog). IsStateOf z t') (sym same) state }, count), more, g.step more.read)

-- after a turn with this result it may stop with this result
abbrev pub Leaves : EngineView → ℕ → Result Happened EngineFault → Result SessionStep ServeFault → Type 0
Leaves e s (Err f) (Err f') = Unit {0}
Leaves e s (Ok happened.Idle) (Ok step.Waits) = Unit {0}
Leaves e s (Ok happened.Wrote) (Ok step.Waits) = WantsBytes e s true
Leaves e s (Ok happened.Wrote) (Ok step.Answered) = Unit {0}
Leaves e s (Ok (happened.Ended cause)) (Ok (step.Ended cause')) = cause ≡ cause'
Leaves e s r w = ⊥

module _ (e : EngineView) (s m : ℕ) (t : SessionState) (front : List Entry) (rs : List RepliedCall) (turned : Turned t (of_session s front)) (left : (of_session s front).left ≡ false) where
  -- a reply was written, and the session was not closed
  still_here : (z k : ℕ) (answer : Response) (leaves : Bool) → event.Turn z k ≡ event.Turn s m → IsLawful front (ReplyWritten z k answer leaves) → (after (of_session s front) (ReplyWritten z k answer leaves)).left ≡ false
  still_here z k answer leaves same lawful =
      let own : z ≡ s = cc in
      let unclosed : (of_session z front).closed ≡ false = ap (λ (n : ℕ). (of_session n front).closed) own ∙ turned.closed in
      ap (λ (b : Bool). if b then true else (of_session s front).left) (lawful.2 ∙ unclosed) ∙ left

  rests : (l : SessionLog) (w : Result SessionStep ServeFault) (a : IsAnswered l rs) → l.left ≡ false → a.due ≡ NothingDue
      → (IsOpen (state_at t l a (due_phase l.call a.due) a.rest) → IsSessionStep w t (state_at t l a (due_phase l.call a.due) a.rest)) → IsEnding t l rs w
  rests l w a here none step = record {
    answered = a;
    phase = due_phase l.call a.due;
    unread = a.rest;
    settles = by_due l a.due (has_begun a.bodies) a.rest here;
    step = λ read. step (record { rests = ap (λ (d : Due). due_phase l.call d) none; closed = refl });
  }

  ending : (x : Entry) (w : Result SessionStep ServeFault) → event_of x ≡ event.Turn s m → IsLawful front x → IsAnswered (after (of_session s front) x) rs
      → (WantsBytes e s true → (a : IsAnswered (after (of_session s front) x) rs) × IsCut a.rest cut.More) → Leaves e s (result_of x) w → IsEnding t (after (of_session s front) x) rs w
  ending (EventRefused ev f) (Err f') same lawful a waits leaves =
      record { answered = a; phase = _; unread = _; settles = by_due (of_session s front) a.due (has_begun a.bodies) a.rest left; step = λ read. tt }
  ending (SessionIdle z k) (Ok step.Waits) same lawful a waits leaves =
      rests (after (of_session s front) (SessionIdle z k)) (Ok step.Waits) a left a.after_last.0 (λ is_open. (is_open, a.after_last.1))
  ending (ReplyWritten z k answer gone) (Ok step.Waits) same lawful a waits leaves =
      let w = waits leaves in
      rests (after (of_session s front) (ReplyWritten z k answer gone)) (Ok step.Waits) w.0 (still_here z k answer gone same lawful) w.0.after_last (λ is_open. (is_open, w.1))
  ending (ReplyWritten z k answer gone) (Ok step.Answered) same lawful a waits leaves =
      rests (after (of_session s front) (ReplyWritten z k answer gone)) (Ok step.Answered) a (still_here z k answer gone same lawful) a.after_last (λ is_open. (is_open, longer))
    where
      longer : length t.answers < length ((of_session s front).wrote ++ answer ∷ [])
      longer = omega (arith, ap (λ (w : List Response). length w) turned.wrote.1, length-append t.answers turned.wrote.0, length-append (of_session s front).wrote (answer ∷ []))
  ending (SessionEnded z k c gone) (Ok (step.Ended c')) same lawful a waits leaves =
      let why : EndsBy (has_begun a.bodies) a.rest c = elim a.after_last.1 [ inl closed ↦ absurd (let no : true ≡ false = sym closed.1 ∙ turned.closed in cc) | inr why ↦ why ] in
      let other : c ≢ Closed = λ is. not_closed (has_begun a.bodies) a.rest c is why in
      record {
        answered = a;
        phase = Gone c;
        unread = [];
        settles = record { left = refl; pending = sym (ap asked_due a.after_last.0); call = tt; rest = (refl, inr why) };
        step = λ read. subst (λ (b : Cause). IsWhole (state_at t (after (of_session s front) (SessionEnded z k c gone)) a (Gone c) []) b × (b ≢ Closed)) leaves (whole_left (state_at t (after (of_session s front) (SessionEnded z k c gone)) a (Gone c) []) c read refl other, other);
      }
  ending x w same lawful a waits leaves = absurd leaves

-- ---- the session's turns in a loop

pub may_start : {turns : ℕ} {start : Since} {s : ℕ} {e : EngineView} {tl : Option (List ℕ)} {t : SessionState} → IsToldBy turns start s e tl t → IsOpen t → HasSent t → MayTurn turns start s e tl true t
may_start {s = s} {t = t} T is_open sent =
    let l = of_session s T.0.later.log in
    record { later = T.0.later; count = T.1; turned = turned_none t l T.0.state is_open sent; has = first_turn t l T.0.state is_open sent }

-- the last turn
pub gone : {turns : ℕ} {start : Since} {s s0 : ℕ} {e e' : EngineView} {tl tl' : Option (List ℕ)} {t : SessionState} {begin : Bool} {r r0 : Result Happened EngineFault} (w : Result SessionStep ServeFault) → s ≡ s0 → IsOpen t → IsRead t → HasSent t → MayTurn turns start s0 e tl begin t
    → Turns s begin tl tl' e r e' → r ≡ r0 → Leaves e' s r0 w → GoneOn (turns + 1) start s e' tl' w t
gone {turns} {start} {s} {s0} {e} {e'} {tl} {tl'} {t} {begin} {r} {r0} w same is_open read sent h by is leaves =
    subst (λ (k : ℕ). Leaves e' k r0 w → Turns k begin tl tl' e r e' → GoneOn (turns + 1) start k e' tl' w t) (sym same)
    (λ leaves by.
    let g = turns_on h by in
    let front = g.is_last.front in
    let rs = recorded_in s0 (linearization g.later.log) in
    let l = after (of_session s0 front) g.last in
    let waits : WantsBytes e' s0 true → (a : IsAnswered l rs) × IsCut a.rest cut.More =
    λ wants. let seen = (wants g.later.log g.later.has).0 refl in subst (λ (z : SessionLog). (a : IsAnswered z rs) × IsCut a.rest cut.More) (part_after g) (seen.answered, seen.cut) in
    let leaves' = subst (λ (z : Result Happened EngineFault). Leaves e' s0 z w) (sym (g.result ∙ is)) leaves in
    let end = ending e' s0 g.moment t front rs g.is_last.turned g.is_last.has.left g.last w g.is_last.event (lawful_after g) (answers_after g) waits leaves' in
    ends_so w g.later l g.count (part_after g) (turned_after g) is_open read sent end) leaves by

-- the count of turns is exhausted
pub gone_spent : {turns : ℕ} {start : Since} {s s0 : ℕ} {e : EngineView} {tl : Option (List ℕ)} {begin : Bool} (f : ServeFault) {t : SessionState} → s ≡ s0 → IsOpen t → IsRead t → HasSent t → MayTurn turns start s0 e tl begin t → GoneOn turns start s e tl (Err f) t
gone_spent {turns} {start} {s} {s0} {e} {tl} f {t} same is_open read sent h =
    let log = h.later.log in
    let l = of_session s0 log in
    let a = h.later.has.kept.linearizable.answered log [] (sym (append-nil log)) s0 h.later.known in
    let end : IsEnding t l (recorded_in s0 (linearization log)) (Err f) = record { answered = a; phase = due_phase l.call a.due; unread = a.rest; settles = by_due l a.due (has_begun a.bodies) a.rest h.has.left; step = λ read. tt } in
    subst (λ (k : ℕ). GoneOn turns start k e tl (Err f) t) (sym same) (ends_so (Err f) h.later l h.count refl h.turned is_open read sent end)

-- one more turn
pub goes_turn : {turns : ℕ} {start : Since} {s s0 : ℕ} {e e' : EngineView} {tl tl' : Option (List ℕ)} {t : SessionState} {begin : Bool} {r r0 : Result Happened EngineFault} → s ≡ s0 → MayTurn turns start s0 e tl begin t → Turns s begin tl tl' e r e' → r ≡ r0 → Stepped (turns + 1) start s0 e' tl' r0 t
goes_turn {turns} {start} {s} {s0} {e} {e'} {tl} {tl'} {t} {begin} {r} same h by is =
    subst (λ (z : Result Happened EngineFault). Stepped (turns + 1) start s0 e' tl' z t) is (turns_on h (subst (λ (k : ℕ). Turns k begin tl tl' e r e') same by))

-- a reply was written, and less than 64 KiB are unsent
pub low_turn : {turns : ℕ} {start : Since} {s s0 : ℕ} {e : EngineView} {tl : Option (List ℕ)} {t : SessionState} {r : Happened} (output : List ℕ) → r ≡ happened.Wrote → s ≡ s0 → HasOutput e s output → length output < 65536 → Stepped turns start s0 e tl (Ok r) t → MayTurn turns start s0 e tl (may_begin_after r) t
low_turn {s0 = s0} {e = e} {t = t} {r = r} output wrote same waits few g =
    let l = after (of_session s0 g.is_last.front) g.last in
    let out : IsUnsent (of_session s0 g.later.log).wrote (of_session s0 g.later.log).sent output = subst (λ (k : ℕ). HasOutput e k output) same waits g.later.log g.later.has g.later.known in
    let now : IsUnsent l.wrote l.sent output = subst (λ (z : SessionLog). IsUnsent z.wrote z.sent output) (part_after g) out in
    may_turn g (record {
      left = wrote_here g.last g.is_last.event (g.result ∙ ap (λ (k : Happened). Ok k) wrote) (lawful_after g);
      low = omega (arith, few, now.count_is, ap (λ (b : List ℕ). length b) now.packets, length-append now.sent output);
      may = subst (λ (k : Happened). MayBegin (may_begin_after k) l) (sym wrote) tt;
    })
  where
    wrote_here : (x : Entry) → event_of x ≡ event.Turn s0 g.moment → result_of x ≡ Ok happened.Wrote → IsLawful g.is_last.front x → (after (of_session s0 g.is_last.front) x).left ≡ false
    wrote_here (ReplyWritten z k answer leaves) by is lawful = still_here e s0 g.moment t g.is_last.front [] g.is_last.turned g.is_last.has.left z k answer leaves by lawful
    wrote_here _ by is lawful = cc

-- the same, for an equal flag
pub begin_as : {turns : ℕ} {start : Since} {s : ℕ} {e : EngineView} {tl : Option (List ℕ)} {t : SessionState} {b b' : Bool} → b' ≡ b → MayTurn turns start s e tl b t → MayTurn turns start s e tl b' t
begin_as {turns} {start} {s} {e} {tl} {t} same h = subst (λ (b : Bool). MayTurn turns start s e tl b t) (sym same) h
