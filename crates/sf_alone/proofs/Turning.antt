-- Turns of a session of an engine.
use Rattle.std.proofs.Common.{◌≡◌, ◌≢◌, ◌<◌, ◌≤◌, ◌⊎◌, ℕ, List, [], ◌∷◌, ◌++◌, length, Option, Bool, true, false, Result, Ok, refl, ap, sym, ◌∙◌, subst, inl, inr, ◌+◌, append-nil, append_assoc, length-append, arith}
use Rattle.std.specs.List.{AllByRecursion}
use Rattle.sf_session.specs.Responses.{Response, RepliedCall, transcript, recorded_in, answered_in, Due, NothingDue, asked_due}
use Rattle.sf_session.specs.declared.cause.Cause.{Cause}
use Rattle.sf_session.specs.SessionStates.{SessionState}
use Rattle.sf_engine.specs.declared.event.Event.TheVariants as event
use Rattle.sf_engine.specs.declared.event.Happened.{Happened}
use Rattle.sf_engine.specs.declared.event.Happened.TheVariants as happened
use Rattle.sf_engine.specs.declared.event.EngineFault.{EngineFault}
use Rattle.sf_engine.specs.Views.{EngineView}
use Rattle.sf_engine.specs.HasLog.{HasLog}
use Rattle.sf_engine.specs.Promise.{Entry, BytesFed, CallBegun, CallMoved, CallBlocked, CallDecided, ReplyWritten, SessionIdle, SessionEnded, SessionClosed, BytesSent, EventRefused, event_of, result_of, linearization, SessionLog, with_own, of_session, IsKnown, IsAnswered, IsKept, IsLawful, continues}
use Rattle.sf_engine.proofs.Laws.{own_push, other_push}
use Rattle.sf_connection.specs.Hosts.{IsFront, IsOpen, HasSent}
use Rattle.sf_connection.proofs.Laws.{transcript_append, front_same, all_but_last}
use Rattle.sf_alone.specs.OnEngine.{IsOf, moment_of, IsTimed, AreTimed, may_begin_after, engine_held, IsLow, IsLowAt, AreLow, has_left, IsStateOf, Since, HasEntries, Turns}
use Rattle.sf_alone.proofs.Entries.{known_more, Added, joined, extended}

-- ---- one turn

-- a session's part of a log after one more turn
abbrev pub after : SessionLog → Entry → SessionLog
after l (EventRefused ev f) = l
after l x = with_own l x

turn_part : (s m : ℕ) (log : List Entry) (x : Entry) → 0 < s → event_of x ≡ event.Turn s m → of_session s (log ++ x ∷ []) ≡ after (of_session s log) x
turn_part s m log (EventRefused ev f) pos e = other_push s log (EventRefused ev f) (λ z. omega (arith, z, pos))
turn_part s m log x pos e = own_push s log x cc

-- the session's next turn may begin a call, or a call is pending
abbrev pub MayBegin : Bool → SessionLog → Type 0
MayBegin true l = Unit {0}
MayBegin false l = length (answered_in l.wrote) < l.begun

any_begin : (b : Bool) (l : SessionLog) → length (answered_in l.wrote) < l.begun → MayBegin b l
any_begin true l h = tt
any_begin false l h = h

-- when a session may take a turn
pub record HasTurn (begin : Bool) (l : SessionLog) : Type 0 where
  pub left : l.left ≡ false
  pub low : IsLow l
  pub may : MayBegin begin l

due_one : (due : Due) → (due ≡ NothingDue → ⊥) → length (asked_due due) ≡ 1
due_one NothingDue some = absurd (some refl)
due_one due some = refl

due_few : (due : Due) → length (asked_due due) ≤ 1
due_few NothingDue = omega arith
due_few due = omega arith

-- the turn leaves a call pending
abbrev is_call : Entry → Bool
is_call (CallBegun s m n) = true
is_call (CallMoved s m added) = true
is_call (CallBlocked s m holder) = true
is_call (CallDecided s m added) = true
is_call _ = false

goes_busy : {b : Bool} (begin : Bool) (l : SessionLog) (x : Entry) (rs : List RepliedCall) → is_call x ≡ true → IsAnswered (after l x) rs → HasTurn b l → HasTurn begin (after l x)
goes_busy begin l (CallBegun s m n) rs call a h = record { left = h.left; low = h.low; may = any_begin begin (with_own l (CallBegun s m n)) (omega (arith, a.begun, due_one a.due a.after_last)) }
goes_busy begin l (CallMoved s m added) rs call a h = record { left = h.left; low = h.low; may = any_begin begin (with_own l (CallMoved s m added)) (omega (arith, a.begun, due_one a.due a.after_last)) }
goes_busy begin l (CallBlocked s m holder) rs call a h = record { left = h.left; low = h.low; may = any_begin begin (with_own l (CallBlocked s m holder)) (omega (arith, a.begun, due_one a.due a.after_last)) }
goes_busy begin l (CallDecided s m added) rs call a h =
    record { left = h.left; low = h.low; may = any_begin begin (with_own l (CallDecided s m added)) (omega (arith, a.begun, ap (λ (d : Due). length (asked_due d)) a.after_last.2)) }
goes_busy begin l _ rs call a h = cc

-- a session with a pending call begins no call
not_begun : (l : SessionLog) (x : Entry) (rs : List RepliedCall) → length (answered_in l.wrote) < l.begun → IsAnswered (after l x) rs → result_of x ≢ Ok happened.Begun
not_begun l (CallBegun s m n) rs busy a e = omega (arith, busy, a.begun, due_few a.due)
not_begun l _ rs busy a e = cc

continues_call : (x : Entry) → continues (result_of x) ≡ true → is_call x ≡ true
continues_call (CallBegun s m n) e = refl
continues_call (CallMoved s m added) e = refl
continues_call (CallBlocked s m holder) e = refl
continues_call (CallDecided s m added) e = refl
continues_call x e = e

-- the timestamp was read from the clock, or no call may begin
abbrev pub IsTimely : ℕ → Bool → List ℕ → Type 0
IsTimely m begin moments = (moments ≡ m ∷ []) ⊎ ((moments ≡ []) × (begin ≡ false))

one_timed : (s m : ℕ) (l : SessionLog) (x : Entry) (rs : List RepliedCall) (begin : Bool) (moments : List ℕ) → event_of x ≡ event.Turn s m → IsTimely m begin moments → MayBegin begin l → IsAnswered (after l x) rs → IsTimed (event_of x) (result_of x) moments
one_timed s m l x rs begin moments e (inl told) may a = inl (told ∙ sym (ap moment_of e))
one_timed s m l x rs begin moments e (inr none) may a = inr (none.0, not_begun l x rs (subst (λ (b : Bool). MayBegin b l) none.1 may) a)

-- ---- what was written since a state

-- before the last answer at most `engine_held` bytes were unsent
abbrev pub HoldsFew : SessionLog → Type 0
HoldsFew l = (before : List Response) (last : Response) → l.wrote ≡ before ++ last ∷ [] → length (transcript before) ≤ l.sent + engine_held

-- a session that was in this state took turns
pub record Turned (t : SessionState) (l : SessionLog) : Type 0 where
  pub fed : t.stream ≡ l.fed
  pub sent : length t.sent ≡ l.sent
  pub wrote : IsFront t.answers l.wrote
  pub few : HoldsFew l
  pub closed : l.closed ≡ false

after_turn : (s m : ℕ) (t : SessionState) (l : SessionLog) (x : Entry) → event_of x ≡ event.Turn s m → IsLow l → Turned t l → Turned t (after l x)
after_turn s m t l (ReplyWritten z k a leaves) e low h = record {
  fed = h.fed;
  sent = h.sent;
  wrote = (h.wrote.0 ++ a ∷ [], ap (λ (w : List Response). w ++ a ∷ []) h.wrote.1 ∙ append_assoc t.answers h.wrote.0 (a ∷ []));
  few = λ before last same. omega (arith, low, ap (λ (w : List Response). length (transcript w)) (all_but_last before l.wrote last a same));
  closed = h.closed;
}
after_turn s m t l (BytesFed z bytes) e low h = cc
after_turn s m t l (SessionClosed z leaves) e low h = cc
after_turn s m t l (BytesSent z n) e low h = cc
after_turn s m t l x e low h = record { fed = h.fed; sent = h.sent; wrote = h.wrote; few = h.few; closed = h.closed }

-- if all was sent, nothing is unsent
module _ (t : SessionState) (l : SessionLog) (is : IsStateOf l t) (is_open : IsOpen t) (sent : HasSent t) where
  all_sent : length (transcript l.wrote) ≡ l.sent
  all_sent = ap (λ (w : List Response). length (transcript w)) (sym is.answers) ∙ ap (λ (b : List ℕ). length b) (sym sent) ∙ is.sent

  not_left : l.left ≡ false
  not_left = is.left ∙ ap has_left is_open.rests

  few_sent : HoldsFew l
  few_sent before last e =
      let bytes : length (transcript l.wrote) ≡ length (transcript before ++ transcript (last ∷ [])) = ap (λ (w : List Response). length (transcript w)) e ∙ ap (λ (b : List ℕ). length b) (transcript_append before (last ∷ [])) in
      omega (arith, all_sent, bytes, length-append (transcript before) (transcript (last ∷ [])))

  pub turned_none : Turned t l
  turned_none = record { fed = is.stream; sent = is.sent; wrote = front_same t.answers l.wrote (sym is.answers); few = few_sent; closed = sym (is.closed not_left) ∙ is_open.closed }

  pub first_turn : HasTurn true l
  first_turn = record { left = not_left; low = omega (arith, all_sent); may = tt }

-- ---- turns

-- the last of turns, after which the log ends
pub record IsLast (s m : ℕ) (t : SessionState) (log : List Entry) (last : Entry) : Type 0 where
  pub front : List Entry
  pub is : log ≡ front ++ last ∷ []
  pub known : IsKnown front s
  pub event : event_of last ≡ event.Turn s m
  pub begin : Bool
  pub has : HasTurn begin (of_session s front)
  pub turned : Turned t (of_session s front)

module _ (s m : ℕ) (t : SessionState) (whole : List Entry) (kept : IsKept whole) where
  answered_after : (log : List Entry) (x : Entry) (rest : List Entry) → whole ≡ log ++ x ∷ rest → IsKnown log s → event_of x ≡ event.Turn s m → IsAnswered (after (of_session s log) x) (recorded_in s (linearization (log ++ x ∷ [])))
  answered_after log x rest same known e =
      subst (λ (l : SessionLog). IsAnswered l (recorded_in s (linearization (log ++ x ∷ [])))) (turn_part s m log x known.0 e)
      (kept.linearizable.answered (log ++ x ∷ []) rest (same ∙ sym (append_assoc log (x ∷ []) rest)) s (known_more log (x ∷ []) s known))

  one_added : (log : List Entry) (x : Entry) (rest : List Entry) (begin : Bool) (moments : List ℕ) → whole ≡ log ++ x ∷ rest → IsKnown log s → event_of x ≡ event.Turn s m → IsTimely m begin moments → HasTurn begin (of_session s log) → Added s log (x ∷ []) moments
  unfolding AreLow AreTimed
  one_added log x rest begin moments same known e timely has = record {
    own = (subst (λ ev. IsOf s ev (result_of x)) (sym e) refl, tt);
    low = (subst (λ ev. IsLowAt (of_session s log) ev) (sym e) has.low, tt);
    timed = (moments, [], sym (append-nil moments), one_timed s m (of_session s log) x (recorded_in s (linearization (log ++ x ∷ []))) begin moments e timely has.may (answered_after log x rest same known e), refl);
  }

  many_added : (earlier : List Entry) (last : Entry) (log : List Entry) (begin : Bool) (moments : List ℕ) → whole ≡ log ++ (earlier ++ last ∷ []) → IsKnown log s → AllByRecursion (λ x. (event_of x ≡ event.Turn s m) × (continues (result_of x) ≡ true)) earlier → event_of last ≡ event.Turn s m
      → IsTimely m begin moments → HasTurn begin (of_session s log) → Turned t (of_session s log) → Added s log (earlier ++ last ∷ []) moments × IsLast s m t (log ++ (earlier ++ last ∷ [])) last
  many_added [] last log begin moments same known all e timely has turned =
      (one_added log last [] begin moments same known e timely has, record { front = log; is = refl; known = known; event = e; begin = begin; has = has; turned = turned })
  many_added (x ∷ earlier) last log begin moments same known all e timely has turned =
      let l = of_session s log in
      let more = earlier ++ last ∷ [] in
      let part = turn_part s m log x known.0 all.0.0 in
      let a = answered_after log x more same known all.0.0 in
      let assoc = append_assoc log (x ∷ []) more in
      let busy = goes_busy false l x (recorded_in s (linearization (log ++ x ∷ []))) (continues_call x all.0.1) a has in
      let to = after_turn s m t l x all.0.0 has.low turned in
      let rest = many_added earlier last (log ++ x ∷ []) false [] (same ∙ sym assoc) (known_more log (x ∷ []) s known) all.1 e (inr (refl, refl)) (subst (λ (z : SessionLog). HasTurn false z) (sym part) busy) (subst (λ (z : SessionLog). Turned t z) (sym part) to) in
      let added = joined s log (x ∷ []) more moments [] (one_added log x more begin moments same known all.0.0 timely has) rest.0 in (
        subst (λ (ms : List ℕ). Added s log (x ∷ more) ms) (append-nil moments) added,
        record { front = rest.1.front; is = sym assoc ∙ rest.1.is; known = rest.1.known; event = e; begin = rest.1.begin; has = rest.1.has; turned = rest.1.turned },
      )

-- a session with entries since a start, which was in the state `t`, and may take a turn
pub record MayTurn (turns : ℕ) (start : Since) (s : ℕ) (e : EngineView) (tl : Option (List ℕ)) (begin : Bool) (t : SessionState) : Type 0 where
  pub later : HasEntries start s e tl
  pub count : turns ≤ length later.entries
  pub turned : Turned t (of_session s later.log)
  pub has : HasTurn begin (of_session s later.log)

-- the same after turns with this result
pub record Stepped (turns : ℕ) (start : Since) (s : ℕ) (e : EngineView) (tl : Option (List ℕ)) (r : Result Happened EngineFault) (t : SessionState) : Type 0 where
  pub later : HasEntries start s e tl
  pub count : turns ≤ length later.entries
  pub moment : ℕ
  pub last : Entry
  pub is_last : IsLast s moment t later.log last
  pub result : result_of last ≡ r

pub turns_on : {turns : ℕ} {start : Since} {s : ℕ} {e e' : EngineView} {tl tl' : Option (List ℕ)} {t : SessionState} {begin : Bool} {r : Result Happened EngineFault} → MayTurn turns start s e tl begin t → Turns s begin tl tl' e r e' → Stepped (turns + 1) start s e' tl' r t
turns_on {s = s} {e' = e'} {tl' = tl'} {t = t} {begin = begin} h by =
    let g = by.2 h.later.log h.later.has in
    let parts = g.1 in
    let more = parts.0 ++ parts.1 ∷ [] in
    let has = subst (λ (xs : List Entry). HasLog e' (h.later.log ++ xs)) parts.2 g.2 in
    let all = many_added s by.0 t (h.later.log ++ more) has.kept parts.0 parts.1 h.later.log begin by.1 refl h.later.known parts.3 parts.4 by.4 h.has h.turned in
    record {
      later = extended h.later more by.1 has by.3 all.0;
      count = omega (arith, h.count, length-append h.later.entries more, length-append parts.0 (parts.1 ∷ []));
      moment = by.0;
      last = parts.1;
      is_last = all.1;
      result = parts.5;
    }

-- ---- after the last turn

module _ {turns : ℕ} {start : Since} {s : ℕ} {e : EngineView} {tl : Option (List ℕ)} {r : Result Happened EngineFault} {t : SessionState} (g : Stepped turns start s e tl r t) where
  pub part_after : of_session s g.later.log ≡ after (of_session s g.is_last.front) g.last
  part_after = ap (λ (l : List Entry). of_session s l) g.is_last.is ∙ turn_part s g.moment g.is_last.front g.last g.is_last.known.0 g.is_last.event

  pub answers_after : IsAnswered (after (of_session s g.is_last.front) g.last) (recorded_in s (linearization g.later.log))
  answers_after =
      subst (λ (l : List Entry). IsAnswered (after (of_session s g.is_last.front) g.last) (recorded_in s (linearization l))) (sym g.is_last.is)
      (answered_after s g.moment t g.later.log g.later.has.kept g.is_last.front g.last [] g.is_last.is g.is_last.known g.is_last.event)

  pub lawful_after : IsLawful g.is_last.front g.last
  lawful_after = g.later.has.kept.lawful g.is_last.front [] g.last g.is_last.is

  pub turned_after : Turned t (after (of_session s g.is_last.front) g.last)
  turned_after = after_turn s g.moment t (of_session s g.is_last.front) g.last g.is_last.event g.is_last.has.low g.is_last.turned

  pub may_turn : {begin : Bool} → HasTurn begin (after (of_session s g.is_last.front) g.last) → MayTurn turns start s e tl begin t
  may_turn {begin} has = record {
    later = g.later;
    count = g.count;
    turned = subst (λ (l : SessionLog). Turned t l) (sym part_after) turned_after;
    has = subst (λ (l : SessionLog). HasTurn begin l) (sym part_after) has;
  }

-- a session may take its next turn if it doesn't wait for input, has not ended, and wrote no reply
still_call : (s m : ℕ) (x : Entry) (r : Happened) → event_of x ≡ event.Turn s m → result_of x ≡ Ok r → (r ≡ happened.Idle → ⊥) → ((cause : Cause) → r ≡ happened.Ended cause → ⊥) → (r ≡ happened.Wrote → ⊥) → is_call x ≡ true
still_call s m (SessionIdle z k) r e is idle ended wrote = absurd (idle cc)
still_call s m (SessionEnded z k cause leaves) r e is idle ended wrote = absurd (ended cause cc)
still_call s m (ReplyWritten z k a leaves) r e is idle ended wrote = absurd (wrote cc)
still_call s m (CallBegun z k n) r e is idle ended wrote = refl
still_call s m (CallMoved z k added) r e is idle ended wrote = refl
still_call s m (CallBlocked z k holder) r e is idle ended wrote = refl
still_call s m (CallDecided z k added) r e is idle ended wrote = refl
still_call s m _ r e is idle ended wrote = cc

pub still_turns : {turns : ℕ} {start : Since} {s : ℕ} {e : EngineView} {tl : Option (List ℕ)} {r : Happened} {t : SessionState} → Stepped turns start s e tl (Ok r) t → (r ≡ happened.Idle → ⊥) → ((cause : Cause) → r ≡ happened.Ended cause → ⊥) → (r ≡ happened.Wrote → ⊥)
    → MayTurn turns start s e tl (may_begin_after r) t
still_turns {s = s} {r = r} g idle ended wrote =
    let call = still_call s g.moment g.last r g.is_last.event g.result idle ended wrote in
    may_turn g (goes_busy (may_begin_after r) (of_session s g.is_last.front) g.last (recorded_in s (linearization g.later.log)) call (answers_after g) g.is_last.has)
