-- A connection, step by step.
use Rattle.std.proofs.Common.{◌≡◌, ◌≢◌, ◌<◌, ◌≤◌, ◌⊎◌, ℕ, ◌+◌, ◌-◌, ◌^◌, List, [], ◌++◌, Option, Some, None, Result, Ok, Err, length, take, drop, refl, ap, sym, ◌∙◌, subst, inl, inr, append-nil, append_assoc, length-append, length-drop, length-take, take-append-drop, arith}
use Rattle.std.proofs.lemmas.List.{take_all, take_at, drop-drop}
use Rattle.std.specs.Prelude.{IfErr}
use Rattle.std.specs.Io.KnownBytes.{Appends, Consumes, Keeps, IsAtEnd}
use Rattle.std.proofs.KnownBytes.{Appends-nil, Consumes-nil, Consumes-kept, Keeps-refl}
use Rattle.sf_line.specs.Lines.{Rose}
use Rattle.sf_session.specs.declared.cause.Cause.{Cause}
use Rattle.sf_session.specs.declared.cause.Cause.TheVariants.{Closed}
use Rattle.sf_session.specs.declared.fault.ServeFault.{ServeFault}
use Rattle.sf_session.specs.declared.fault.ServeFault.TheVariants as fault
use Rattle.sf_session.specs.Responses.{Response, transcript}
use Rattle.sf_session.specs.SessionStates.{Resting, SessionState, new_state, fed, unsent, IsRead}
use Rattle.sf_connection.specs.declared.host.SessionStep.{SessionStep}
use Rattle.sf_connection.specs.declared.host.SessionStep.TheVariants as step
use Rattle.sf_connection.specs.Ends.{IsWhole}
use Rattle.sf_connection.specs.Hosts.{IsOpen, Waits, IsFurther, IsSessionStep, with_sent, ended, IsHostFault}
use Rattle.sf_connection.specs.Progress.{Progress, progress, IsInStep, HasWritten, IsServed, IsStopped}
use Rattle.std.specs.List.{flat_map}
use Rattle.sf_field.specs.Fields.{be32, packet, max_body}
use Rattle.sf_wire.specs.declared.cutting.Cut.TheVariants as cut
use Rattle.sf_wire.specs.Packets.{IsCut, Cuts}
use Rattle.sf_wire.specs.Packets.{More}
use Rattle.sf_connection.proofs.Fronts.{none_written}
use Rattle.sf_connection.proofs.Sessions.{read_new, rest_stream, rest_asked, cuts_of, ended_none, written_ended, sent_whole, gone_whole, closed_whole, rose_until, host_spent, host_stop}
use Rattle.sf_connection.specs.declared.connection.Connection.{Connection}
use Rattle.sf_connection.specs.declared.connection.ServeState.{ServeState}
use Rattle.sf_connection.specs.declared.connection.ServeState.TheVariants.{Processing, Waiting, Ending}
use Rattle.sf_connection.specs.declared.connection.InputState.{InputState}
use Rattle.sf_connection.specs.declared.connection.InputState.TheVariants.{Open, AtEnd, Failed}
use Rattle.sf_connection.specs.declared.connection.Wants.{Wants}
use Rattle.sf_connection.specs.declared.connection.Wants.TheVariants.{Read, Write, Both, Again, Ended}
use Rattle.sf_connection.specs.Streams.{StreamView}
use Rattle.sf_connection.specs.Connections.{HasPassed, IsInState, IsInput, pending_output, IsServing, HasDue, amount, AnswersAll, ReadsNoFurther, Returns, IfEnded}
use Rattle.sf_connection.specs.Steps.{state_after, IsClear, state_rank, input_rank, rank, HasStepped, HasSteppedBy, HasTurned, over, MayEnd, IsReadFrom}
use Rattle.sf_connection.proofs.Passing.{unsent_is, unsent_none, unsent_sent, unsent_few, unsent_more, all_made, unread_less, passed_sent, passed_still, passed_wrote, passed_further, passed_read, passed_fed, passed_ended}

-- ---- its state and its input

-- the same session, of which more was written
state_wrote : (s : ServeState) (w w' : ℕ) (p : Progress) (written : List ℕ) → w' ≡ w → IsInState s w p → IsInState s w' (progress p.state p.unfed written)
state_wrote Processing w w' p written same h = h
state_wrote Waiting w w' p written same h = h
state_wrote (Ending (Ok cause)) w w' p written same h = h
state_wrote (Ending (Err f)) w w' p written same h = subst (λ (k : ℕ). IsHostFault f k) (sym same) h

-- its output was recorded as sent
state_sent : (s : ServeState) (w w' : ℕ) (p : Progress) (written : List ℕ) → w' ≡ w → IsInState s w p → IsInState s w' (progress (with_sent p.state) p.unfed written)
state_sent Processing w w' p written same h = (record { rests = h.0.rests; closed = h.0.closed }, h.1)
state_sent Waiting w w' p written same h = ((record { rests = h.0.0.rests; closed = h.0.0.closed }, h.0.1), h.1)
state_sent (Ending (Ok cause)) w w' p written same h = (sent_whole p.state cause h.0, h.1, h.2)
state_sent (Ending (Err f)) w w' p written same h = subst (λ (k : ℕ). IsHostFault f k) (sym same) h

input_kept : (i : InputState) (from now now' : StreamView) → now'.incoming ≡ now.incoming → now.failed ≤ now'.failed → IsInput i from now → IsInput i from now'
input_kept Open from now now' same more h = tt
input_kept AtEnd from now now' same more h = subst IsAtEnd (sym same) h
input_kept Failed from now now' same more h = rose_until from.failed now.failed now'.failed more h

-- ---- pending output

due_first : (g : List ℕ) (d : ℕ) (u : List ℕ) → d ≡ 0 → g ++ drop d u ≡ g ++ u
due_first g d u e = ap (λ (n : ℕ). g ++ drop n u) e

none_due : (d : ℕ) (u : List ℕ) → u ≡ [] → (d ≡ 0) ⊎ (d < length u) → d ≡ 0
none_due d u e (inl h) = h
none_due d u e (inr h) = absurd (omega (arith, ap (λ (b : List ℕ). length b) e))

pub has_due : {H S : Type 0} {held work : ℕ} {from now : StreamView} (c : Connection H S) (p : Progress) → IsServing held work from now c p → 0 < length (pending_output c p.state) → HasDue p
has_due c p s some = omega (arith, some, ap (λ (b : List ℕ). length b) s.whole, length-append p.written (pending_output c p.state))

pub due_some : {H S : Type 0} {held work : ℕ} {from now : StreamView} (c : Connection H S) (p : Progress) → IsServing held work from now c p → HasDue p → 0 < length (pending_output c p.state)
due_some c p s due = omega (arith, due, ap (λ (b : List ℕ). length b) s.whole, length-append p.written (pending_output c p.state))

-- all was written if nothing is due
pub written_all : {H S : Type 0} {held work : ℕ} {from now : StreamView} (c : Connection H S) (p : Progress) → IsServing held work from now c p → IsClear c p → c.state ≢ Processing → IsInStep p
written_all c p s clear other =
    let t = p.state in
    let none : unsent t ≡ [] = unsent_none t clear.0 in
    let zero : c.direct ≡ 0 = none_due c.direct (unsent t) none s.within in
    let due : pending_output c t ≡ [] = due_first c.gathered c.direct (unsent t) zero ∙ ap (λ (b : List ℕ). c.gathered ++ b) none ∙ append-nil c.gathered ∙ clear.1 other in
    sym (clear.0 ∙ s.whole ∙ ap (λ (b : List ℕ). p.written ++ b) due ∙ append-nil p.written)

-- ---- the connection as it was

pub served_same : {H S H' S' : Type 0} {held work : ℕ} {from now : StreamView} {p : Progress} (c : Connection H S) (c' : Connection H' S') → c'.gathered ≡ c.gathered → c'.direct ≡ c.direct → c'.ahead ≡ c.ahead → c'.state ≡ c.state → c'.input ≡ c.input
    → IsServing held work from now c p → IsServing held work from now c' p
served_same {work = work} {from = from} {now = now} {p = p} c c' g d a e i s = record {
  passed = s.passed;
  state = subst (λ (x : ServeState). IsInState x work p) (sym e) s.state;
  input = subst (λ (x : InputState). IsInput x from now) (sym i) s.input;
  whole = s.whole ∙ sym (ap (λ (b : List ℕ). p.written ++ (b ++ drop c'.direct (unsent p.state))) g ∙ ap (λ (n : ℕ). p.written ++ (c.gathered ++ drop n (unsent p.state))) d);
  within = subst (λ (n : ℕ). (n ≡ 0) ⊎ (n < length (unsent p.state))) (sym d) s.within;
  buffer = subst (λ (b : List ℕ). length b ≤ 16384) (sym g) s.buffer;
  few = s.few;
  unread = omega (arith, a, s.unread);
  small = omega (arith, a, s.small);
  ahead = subst (λ (n : ℕ). n ≤ length p.state.stream) (sym a) s.ahead;
  waits = λ at. a ∙ s.waits (sym e ∙ at);
  failures = s.failures;
}

-- over a stream over which nothing passed since
pub served_kept : {H S H' S' : Type 0} {held work : ℕ} {from now now' : StreamView} {p : Progress} (c : Connection H S) (c' : Connection H' S') → c'.gathered ≡ c.gathered → c'.direct ≡ c.direct → c'.ahead ≡ c.ahead → c'.state ≡ c.state → c'.input ≡ c.input → now'.incoming ≡ now.incoming → Keeps now.outgoing now'.outgoing → now.failed ≤ now'.failed → IsServing held work from now c p → IsServing held work from now' c' p
served_kept {from = from} {now = now} {now' = now'} c c' g d a e n i o more s = served_same c c' g d a e n (record {
  passed = passed_still i o s.passed;
  state = s.state;
  input = input_kept c.input from now now' i more s.input;
  whole = s.whole;
  within = s.within;
  buffer = s.buffer;
  few = s.few;
  unread = s.unread;
  small = s.small;
  ahead = s.ahead;
  waits = s.waits;
  failures = omega (arith, s.failures, more);
})

same_keeps : (a b : Option (List ℕ)) → b ≡ a → Keeps a b
same_keeps a b e = subst (λ (o : Option (List ℕ)). Keeps a o) (sym e) (Keeps-refl a)

pub served_still : {H S H' S' : Type 0} {held work : ℕ} {from now now' : StreamView} {p : Progress} (c : Connection H S) (c' : Connection H' S') → c'.gathered ≡ c.gathered → c'.direct ≡ c.direct → c'.ahead ≡ c.ahead → c'.state ≡ c.state → c'.input ≡ c.input → now'.incoming ≡ now.incoming → now'.outgoing ≡ now.outgoing → now.failed ≤ now'.failed → IsServing held work from now c p → IsServing held work from now' c' p
served_still {now = now} {now' = now'} c c' g d a e n i o more s = served_kept c c' g d a e n i (same_keeps now.outgoing now'.outgoing o) more s

-- ---- output is taken from the host

pub gathers : {H S H' S' : Type 0} {held work work' : ℕ} {from now : StreamView} {p : Progress} (c : Connection H S) (c' : Connection H' S') (out : List ℕ) → transcript p.state.answers ≡ p.state.sent ++ out → c.direct ≡ 0 → work' ≡ work → c'.gathered ≡ c.gathered ++ out → length c'.gathered ≤ 16384
    → c'.direct ≡ c.direct → c'.ahead ≡ c.ahead → c'.state ≡ c.state → c'.input ≡ c.input → IsServing held work from now c p → IsServing held work' from now c' (progress (with_sent p.state) p.unfed p.written)
gathers {held = held} {work = work} {work' = work'} {from = from} {now = now} {p = p} c c' out waits zero same g few d a e i s =
    let t = p.state in
    let p' = progress (with_sent t) p.unfed p.written in
    let none = unsent_sent t in
    let zero' : c'.direct ≡ 0 = d ∙ zero in
    let due : pending_output c t ≡ c.gathered ++ out = due_first c.gathered c.direct (unsent t) zero ∙ ap (λ (b : List ℕ). c.gathered ++ b) (unsent_is t out waits) in
    let due' : pending_output c' (with_sent t) ≡ c.gathered ++ out = due_first c'.gathered c'.direct (unsent (with_sent t)) zero' ∙ ap (λ (b : List ℕ). c'.gathered ++ b) none ∙ append-nil c'.gathered ∙ g in
    record {
      passed = passed_sent s.passed;
      state = subst (λ (x : ServeState). IsInState x work' p') (sym e) (state_sent c.state work work' p p.written same s.state);
      input = subst (λ (x : InputState). IsInput x from now) (sym i) s.input;
      whole = s.whole ∙ ap (λ (b : List ℕ). p.written ++ b) (due ∙ sym due');
      within = inl zero';
      buffer = few;
      few = omega (arith, ap (λ (b : List ℕ). length b) none);
      unread = omega (arith, a, s.unread);
      small = omega (arith, a, s.small);
      ahead = subst (λ (n : ℕ). n ≤ length t.stream) (sym a) s.ahead;
      waits = λ at. a ∙ s.waits (sym e ∙ at);
      failures = s.failures;
    }

-- ---- packets are processed

more_answers : {held : ℕ} (t t' : SessionState) → IsFurther held t t' → length t.answers ≤ length t'.answers
more_answers t t' further = omega (arith, ap (λ (b : List Response). length b) further.answers.1, length-append t.answers further.answers.0)

pub moved_to : {H S : Type 0} {held : ℕ} (r : Result SessionStep ServeFault) (c c' : Connection H S) (p : Progress) (t' : SessionState) → c.state ≡ Processing → c'.state ≡ state_after r → c'.input ≡ c.input → IsFurther held p.state t' → IsSessionStep r p.state t'
    → HasStepped c c' p (progress t' p.unfed p.written)
moved_to (Ok step.Answered) c c' p t' was is i further to =
    let stream = ap (λ (b : List ℕ). length b) further.stream in inl (omega (arith, to.1, stream))
moved_to (Ok step.Waits) c c' p t' was is i further to =
    let stream = ap (λ (b : List ℕ). length b) further.stream in
    inr (omega (arith, more_answers p.state t' further, stream), omega (arith, ap state_rank was, ap state_rank is, ap input_rank i))
moved_to (Ok (step.Ended cause)) c c' p t' was is i further to =
    let stream = ap (λ (b : List ℕ). length b) further.stream in
    inr (omega (arith, more_answers p.state t' further, stream), omega (arith, ap state_rank was, ap state_rank is, ap input_rank i))
moved_to (Err f) c c' p t' was is i further to =
    let stream = ap (λ (b : List ℕ). length b) further.stream in
    inr (omega (arith, more_answers p.state t' further, stream), omega (arith, ap state_rank was, ap state_rank is, ap input_rank i))

state_went : (r : Result SessionStep ServeFault) (work' : ℕ) (p : Progress) (t' : SessionState) → p.unfed ≡ [] → IsSessionStep r p.state t' → IfErr r (λ f. IsHostFault f work') → IsInState (state_after r) work' (progress t' p.unfed p.written)
state_went (Ok step.Answered) work' p t' none to why = (to.0, none)
state_went (Ok step.Waits) work' p t' none to why = (to, none)
state_went (Ok (step.Ended cause)) work' p t' none to why = (to.0, to.1, none)
state_went (Err f) work' p t' none to why = why

pub ahead_less : (s : ServeState) (a r : ℕ) → (s ≡ Waiting → r ≡ 0) → (s ≢ Waiting → r ≡ a) → r ≤ a
ahead_less Processing a r none same = let e = same (λ e. absurd (cc)) in omega arith
ahead_less Waiting a r none same = let e = none refl in omega arith
ahead_less (Ending o) a r none same = let e = same (λ e. absurd (cc)) in omega arith

-- at most one packet is incomplete
four : (n : ℕ) → length (be32 n) ≡ 4
four n = refl

short_unread : (bytes : List ℕ) → IsCut bytes cut.More → length bytes ≤ 4 + max_body
short_unread bytes (inl h) = omega (arith, h)
short_unread bytes (inr h) = omega (arith, h.2, h.4, ap (λ (b : List ℕ). length b) h.3, length-append (be32 h.0) h.1, four h.0)

unread_went : {held : ℕ} (r : Result SessionStep ServeFault) (t t' : SessionState) (a a' : ℕ) → t.phase ≡ Resting → IsRead t → IsFurther held t t' → IsSessionStep r t t' → (state_after r ≡ Waiting → a' ≡ 0) → (state_after r ≢ Waiting → a' ≡ a) → length t.unread ≤ a + 4 + max_body → length t'.unread ≤ a' + 4 + max_body
unread_went (Ok step.Waits) t t' a a' at read further to reset kept few = omega (arith, short_unread t'.unread to.1)
unread_went (Ok step.Answered) t t' a a' at read further to reset kept few = omega (arith, unread_less t t' at read further, kept (λ e. absurd (cc)), few)
unread_went (Ok (step.Ended cause)) t t' a a' at read further to reset kept few = omega (arith, unread_less t t' at read further, kept (λ e. absurd (cc)), few)
unread_went (Err f) t t' a a' at read further to reset kept few = omega (arith, unread_less t t' at read further, kept (λ e. absurd (cc)), few)

pub went : {H S H' S' : Type 0} {held work work' : ℕ} {from now : StreamView} {p : Progress} (r : Result SessionStep ServeFault) (c : Connection H S) (c' : Connection H' S') (t' : SessionState) → IsClear c p → c.state ≡ Processing → IsFurther held p.state t' → IsSessionStep r p.state t' → IfErr r (λ f. IsHostFault f work')
    → c'.gathered ≡ c.gathered → c'.direct ≡ c.direct → (state_after r ≡ Waiting → c'.ahead ≡ 0) → (state_after r ≢ Waiting → c'.ahead ≡ c.ahead) → c'.state ≡ state_after r → c'.input ≡ c.input → IsServing held work from now c p
    → (c'.direct ≡ 0) × IsServing held work' from now c' (progress t' p.unfed p.written)
went {held = held} {work = work} {work' = work'} {from = from} {now = now} {p = p} r c c' t' clear was further to why g d reset kept e i s =
    let t = p.state in
    let a : c'.ahead ≤ c.ahead = ahead_less (state_after r) c.ahead c'.ahead reset kept in
    let p' = progress t' p.unfed p.written in
    let none : unsent t ≡ [] = unsent_none t clear.0 in
    let zero : c.direct ≡ 0 = none_due c.direct (unsent t) none s.within in
    let zero' : c'.direct ≡ 0 = d ∙ zero in
    let made = further.answers.0 in
    let before : transcript t.answers ≡ p.written ++ c.gathered = s.whole ∙ ap (λ (b : List ℕ). p.written ++ b) (due_first c.gathered c.direct (unsent t) zero ∙ ap (λ (b : List ℕ). c.gathered ++ b) none ∙ append-nil c.gathered) in
    let due' : pending_output c' t' ≡ c.gathered ++ transcript made = due_first c'.gathered c'.direct (unsent t') zero' ∙ ap (λ (b : List ℕ). c'.gathered ++ b) (unsent_more t t' clear.0 further) ∙ ap (λ (b : List ℕ). b ++ transcript made) g in
    let after : transcript t'.answers ≡ transcript t.answers ++ transcript made = all_made t t' further in
    let processing : IsInState Processing work p = subst (λ (x : ServeState). IsInState x work p) was s.state in (
      zero',
      record {
        passed = passed_further further s.passed;
        state = subst (λ (x : ServeState). IsInState x work' p') (sym e) (state_went r work' p t' processing.1 to why);
        input = subst (λ (x : InputState). IsInput x from now) (sym i) s.input;
        whole = after ∙ ap (λ (b : List ℕ). b ++ transcript made) before ∙ append_assoc p.written c.gathered (transcript made) ∙ ap (λ (b : List ℕ). p.written ++ b) (sym due');
        within = inl zero';
        buffer = subst (λ (b : List ℕ). length b ≤ 16384) (sym g) s.buffer;
        few = unsent_few t t' clear.0 further;
        unread = unread_went r t t' c.ahead c'.ahead processing.0.rests s.passed.bodies further to reset kept s.unread;
        small = omega (arith, a, s.small);
        ahead = omega (arith, a, s.ahead, ap (λ (b : List ℕ). length b) further.stream);
        waits = λ at. reset (sym e ∙ at);
        failures = s.failures;
      },
    )

-- ---- output is written

pub more_written : (p : Progress) (bytes : List ℕ) → 0 < length bytes → amount p < amount (progress p.state p.unfed (p.written ++ bytes))
more_written p bytes some = omega (arith, some, length-append p.written bytes)

pub wrote_some : {H S H' S' : Type 0} {held work work' : ℕ} {from now now' : StreamView} {p : Progress} (c : Connection H S) (c' : Connection H' S') (bytes : List ℕ) → pending_output c p.state ≡ bytes ++ pending_output c' p.state → work' ≡ work → now'.incoming ≡ now.incoming → Appends now.outgoing now'.outgoing bytes → now.failed ≤ now'.failed
    → (c'.direct ≡ 0) ⊎ (c'.direct < length (unsent p.state)) → length c'.gathered ≤ 16384 → c'.ahead ≡ c.ahead → c'.state ≡ c.state → c'.input ≡ c.input → IsServing held work from now c p → IsServing held work' from now' c' (progress p.state p.unfed (p.written ++ bytes))
wrote_some {work = work} {work' = work'} {from = from} {now = now} {now' = now'} {p = p} c c' bytes due same i appends more within buffer a e n s =
    let written = p.written ++ bytes in
    let all : transcript p.state.answers ≡ written ++ pending_output c' p.state = s.whole ∙ ap (λ (b : List ℕ). p.written ++ b) due ∙ sym (append_assoc p.written bytes (pending_output c' p.state)) in
    record {
      passed = passed_wrote bytes (pending_output c' p.state) i appends all s.passed;
      state = subst (λ (x : ServeState). IsInState x work' (progress p.state p.unfed written)) (sym e) (state_wrote c.state work work' p written same s.state);
      input = subst (λ (x : InputState). IsInput x from now') (sym n) (input_kept c.input from now now' i more s.input);
      whole = all;
      within = within;
      buffer = buffer;
      few = s.few;
      unread = omega (arith, a, s.unread);
      small = omega (arith, a, s.small);
      ahead = subst (λ (k : ℕ). k ≤ length p.state.stream) (sym a) s.ahead;
      waits = λ at. a ∙ s.waits (sym e ∙ at);
      failures = omega (arith, s.failures, more);
    }

-- all of the host's output was written, and nothing is gathered
pub wrote_all : {H S H' S' : Type 0} {held work work' : ℕ} {from now now' : StreamView} {p : Progress} (c : Connection H S) (c' : Connection H' S') → c.gathered ≡ [] → c'.gathered ≡ [] → c'.direct ≡ 0 → work' ≡ work → now'.incoming ≡ now.incoming → Appends now.outgoing now'.outgoing (pending_output c p.state) → now.failed ≤ now'.failed
    → c'.ahead ≡ c.ahead → c'.state ≡ c.state → c'.input ≡ c.input → IsServing held work from now c p → IsServing held work' from now' c' (progress (with_sent p.state) p.unfed (p.written ++ pending_output c p.state))
wrote_all {work = work} {work' = work'} {from = from} {now = now} {now' = now'} {p = p} c c' g g' zero same i appends more a e n s =
    let t = p.state in
    let written = p.written ++ pending_output c t in
    let none = unsent_sent t in
    let due' : pending_output c' (with_sent t) ≡ [] = due_first c'.gathered c'.direct (unsent (with_sent t)) zero ∙ ap (λ (b : List ℕ). c'.gathered ++ b) none ∙ append-nil c'.gathered ∙ g' in
    let all : transcript t.answers ≡ written ++ pending_output c' (with_sent t) = s.whole ∙ sym (append-nil written) ∙ ap (λ (b : List ℕ). written ++ b) (sym due') in
    record {
      passed = passed_sent (passed_wrote (pending_output c t) (pending_output c' (with_sent t)) i appends all s.passed);
      state = subst (λ (x : ServeState). IsInState x work' (progress (with_sent t) p.unfed written)) (sym e) (state_sent c.state work work' p written same s.state);
      input = subst (λ (x : InputState). IsInput x from now') (sym n) (input_kept c.input from now now' i more s.input);
      whole = all;
      within = inl zero;
      buffer = omega (arith, ap (λ (b : List ℕ). length b) g');
      few = omega (arith, ap (λ (b : List ℕ). length b) none);
      unread = omega (arith, a, s.unread);
      small = omega (arith, a, s.small);
      ahead = subst (λ (k : ℕ). k ≤ length t.stream) (sym a) s.ahead;
      waits = λ at. a ∙ s.waits (sym e ∙ at);
      failures = omega (arith, s.failures, more);
    }

-- ---- input is read

processing_not : Processing ≡ Waiting → ⊥
processing_not e = cc

ending_waits_not : (o : Result Cause ServeFault) → Ending o ≡ Waiting → ⊥
ending_waits_not o e = cc

-- bytes were read and fed
pub was_fed : {H S H' S' : Type 0} {held work work' : ℕ} {from now now' : StreamView} {p : Progress} (c : Connection H S) (c' : Connection H' S') (bytes : List ℕ) → IsOpen p.state → p.unfed ≡ [] → IsReadFrom now now' bytes → c'.gathered ≡ c.gathered → c'.direct ≡ c.direct → c'.ahead ≡ c.ahead + length bytes → c.ahead < 2 ^ 24 → length bytes ≤ 65536 → c'.state ≡ Processing
    → c'.input ≡ c.input → c.input ≡ Open → IsServing held work from now c p → IsServing held work' from now' c' (progress (fed p.state bytes) [] p.written)
was_fed {work' = work'} {from = from} {now = now} {now' = now'} {p = p} c c' bytes is_open none by g d a few short e i o s =
    let t = p.state in
    let p' = progress (fed t bytes) [] p.written in
    record {
      passed = passed_fed t bytes p.written is_open.rests (passed_read none by s.passed);
      state = subst (λ (x : ServeState). IsInState x work' p') (sym e) (record { rests = is_open.rests; closed = is_open.closed }, refl);
      input = subst (λ (x : InputState). IsInput x from now') (sym (i ∙ o)) tt;
      whole = s.whole ∙ sym (ap (λ (b : List ℕ). p.written ++ (b ++ drop c'.direct (unsent t))) g ∙ ap (λ (n : ℕ). p.written ++ (c.gathered ++ drop n (unsent t))) d);
      within = subst (λ (n : ℕ). (n ≡ 0) ⊎ (n < length (unsent t))) (sym d) s.within;
      buffer = subst (λ (b : List ℕ). length b ≤ 16384) (sym g) s.buffer;
      few = s.few;
      unread = omega (arith, a, s.unread, length-append t.unread bytes);
      small = omega (arith, a, few, short);
      ahead = omega (arith, a, s.ahead, length-append t.stream bytes);
      waits = λ at. absurd (processing_not (sym e ∙ at));
      failures = omega (arith, s.failures, by.failures);
    }

-- bytes were read, and memory ran out
pub was_not_fed : {H S H' S' : Type 0} {held work work' : ℕ} {from now now' : StreamView} {p : Progress} (c : Connection H S) (c' : Connection H' S') (bytes : List ℕ) → p.unfed ≡ [] → IsReadFrom now now' bytes → c'.gathered ≡ c.gathered → c'.direct ≡ c.direct → c'.ahead ≡ c.ahead → c'.state ≡ Ending (Err fault.OutOfMemory)
    → c'.input ≡ c.input → c.input ≡ Open → IsServing held work from now c p → IsServing held work' from now' c' (progress p.state bytes p.written)
was_not_fed {work' = work'} {from = from} {now = now} {now' = now'} {p = p} c c' bytes none by g d a e i o s =
    let t = p.state in
    record {
      passed = passed_read none by s.passed;
      state = subst (λ (x : ServeState). IsInState x work' (progress t bytes p.written)) (sym e) tt;
      input = subst (λ (x : InputState). IsInput x from now') (sym (i ∙ o)) tt;
      whole = s.whole ∙ sym (ap (λ (b : List ℕ). p.written ++ (b ++ drop c'.direct (unsent t))) g ∙ ap (λ (n : ℕ). p.written ++ (c.gathered ++ drop n (unsent t))) d);
      within = subst (λ (n : ℕ). (n ≡ 0) ⊎ (n < length (unsent t))) (sym d) s.within;
      buffer = subst (λ (b : List ℕ). length b ≤ 16384) (sym g) s.buffer;
      few = s.few;
      unread = omega (arith, a, s.unread);
      small = omega (arith, a, s.small);
      ahead = subst (λ (n : ℕ). n ≤ length t.stream) (sym a) s.ahead;
      waits = λ at. absurd (ending_waits_not (Err fault.OutOfMemory) (sym e ∙ at));
      failures = omega (arith, s.failures, by.failures);
    }

pub amount_fed : (p : Progress) (bytes : List ℕ) → p.unfed ≡ [] → amount (progress (fed p.state bytes) [] p.written) ≡ amount p + length bytes
amount_fed p bytes none = omega (arith, ap (λ (b : List ℕ). length b) none, length-append p.state.stream bytes)

pub amount_not_fed : (p : Progress) (bytes : List ℕ) → p.unfed ≡ [] → amount (progress p.state bytes p.written) ≡ amount p + length bytes
amount_not_fed p bytes none = omega (arith, ap (λ (b : List ℕ). length b) none)

-- the input ended or failed
pub input_over : {H S H' S' : Type 0} {held work : ℕ} {from now now' : StreamView} {p : Progress} (c : Connection H S) (c' : Connection H' S') → p.unfed ≡ [] → IsReadFrom now now' [] → c'.gathered ≡ c.gathered → c'.direct ≡ c.direct → c'.ahead ≡ c.ahead → c'.state ≡ c.state → IsInput c'.input from now'
    → IsServing held work from now c p → IsServing held work from now' c' (progress p.state [] p.written)
input_over {work = work} {from = from} {now = now} {now' = now'} {p = p} c c' none by g d a e i s =
    let t = p.state in
    record {
      passed = passed_read none by s.passed;
      state = subst (λ (x : ServeState). IsInState x work (progress t [] p.written)) (sym e) (subst (λ (b : List ℕ). IsInState c.state work (progress t b p.written)) none (state_wrote c.state work work p p.written refl s.state));
      input = i;
      whole = s.whole ∙ sym (ap (λ (b : List ℕ). p.written ++ (b ++ drop c'.direct (unsent t))) g ∙ ap (λ (n : ℕ). p.written ++ (c.gathered ++ drop n (unsent t))) d);
      within = subst (λ (n : ℕ). (n ≡ 0) ⊎ (n < length (unsent t))) (sym d) s.within;
      buffer = subst (λ (b : List ℕ). length b ≤ 16384) (sym g) s.buffer;
      few = s.few;
      unread = omega (arith, a, s.unread);
      small = omega (arith, a, s.small);
      ahead = subst (λ (n : ℕ). n ≤ length t.stream) (sym a) s.ahead;
      waits = λ at. a ∙ s.waits (sym e ∙ at);
      failures = omega (arith, s.failures, by.failures);
    }

none_left : (i : InputState) → i ≢ Open → input_rank i ≡ 0
none_left Open other = absurd (other refl)
none_left AtEnd other = refl
none_left Failed other = refl

pub moved_over : {H S : Type 0} (c c' : Connection H S) (p : Progress) → p.unfed ≡ [] → c.input ≡ Open → c'.state ≡ c.state → c'.input ≢ Open → HasStepped c c' p (progress p.state [] p.written)
moved_over c c' p none was same other =
    inr (omega (arith, ap (λ (b : List ℕ). length b) none), omega (arith, ap input_rank was, ap state_rank same, none_left c'.input other))

-- ---- the session ends

served_over : (now : StreamView) (cause : Cause) (p : Progress) → p.unfed ≡ [] → IsWhole (ended p.state) cause → HasWritten p → (cause ≡ Closed → IsAtEnd now.incoming) → IsServed now.incoming cause (over p)
served_over now cause p none whole wrote at_end = let w = written_ended p wrote in record { fed = none; whole = whole; sent = w.0; in_step = w.1; at_end = at_end }

pub closed_may_end : (work : ℕ) (from now : StreamView) (p : Progress) → IsRead p.state → HasWritten p → Waits p.state × (p.unfed ≡ []) → IsAtEnd now.incoming → MayEnd (Ok Closed) work from now p
closed_may_end work from now p read wrote waits at_end = served_over now Closed p waits.1 (closed_whole p.state read waits.0) wrote (λ e. at_end)

ending_not : (outcome : Result Cause ServeFault) → Ending outcome ≡ Processing → ⊥
ending_not outcome e = cc

ending_may : (work : ℕ) (from now : StreamView) (p : Progress) (outcome : Result Cause ServeFault) → HasWritten p → IsInState (Ending outcome) work p → MayEnd outcome work from now p
ending_may work from now p (Ok cause) wrote h = served_over now cause p h.2 (gone_whole p.state cause h.0) wrote (λ e. absurd (h.1 e))
ending_may work from now p (Err f) wrote h = (record { written = λ no. written_ended p wrote; spent = host_spent f work (over p) h; closed = ended_none p.state }, host_stop f work from.failed now.failed h)

pub may_end : {H S : Type 0} {held work : ℕ} {from now : StreamView} (c : Connection H S) (p : Progress) (outcome : Result Cause ServeFault) → IsServing held work from now c p → IsClear c p → c.state ≡ Ending outcome → MayEnd outcome work from now p
may_end {work = work} {from = from} {now = now} c p outcome s clear is =
    ending_may work from now p outcome (clear.0, written_all c p s clear (λ e. ending_not outcome (sym is ∙ e))) (subst (λ (x : ServeState). IsInState x work p) is s.state)

pub ends : {H S : Type 0} (held : ℕ) {work work' : ℕ} {from now : StreamView} {p : Progress} (c : Connection H S) (p₀ : Progress) (outcome : Result Cause ServeFault) → MayEnd outcome work from now p → work' ≡ work → HasPassed from now p → Returns (Ended outcome) held work' from now c p₀ (progress (ended p.state) p.unfed p.written)
ends held c p₀ (Ok cause) may same S = (passed_ended S, may)
ends held {p = p} c p₀ (Err f) may same S = (passed_ended S, subst (λ (k : ℕ). IsStopped f k (over p)) (sym same) may.0, may.1)

-- ---- output of the host is written

pub direct_within : {H S : Type 0} {held work : ℕ} {from now : StreamView} (c : Connection H S) (p : Progress) (out : List ℕ) → IsServing held work from now c p → transcript p.state.answers ≡ p.state.sent ++ out → c.direct ≤ length out
direct_within c p out s waits =
    let same = ap (λ (b : List ℕ). length b) (unsent_is p.state out waits) in
    elim s.within [ inl h ↦ omega (arith, h) | inr h ↦ omega (arith, h, same) ]

pub due_direct : {H S : Type 0} (c : Connection H S) (t : SessionState) (out : List ℕ) → transcript t.answers ≡ t.sent ++ out → c.gathered ≡ [] → pending_output c t ≡ drop c.direct out
due_direct c t out waits none = ap (λ (b : List ℕ). b ++ drop c.direct (unsent t)) none ∙ ap (λ (b : List ℕ). drop c.direct b) (unsent_is t out waits)

-- what a write of the rest of a slice wrote
pub part_of : (out : List ℕ) (start n : ℕ) → take n (take (length out - start) (drop start out)) ≡ take n (drop start out)
part_of out start n = ap (λ (b : List ℕ). take n b) (take_all (length out - start) (drop start out) (omega (arith, length-drop start out)))

pub direct_left : {H S : Type 0} (c : Connection H S) (t : SessionState) (out : List ℕ) (n : ℕ) (g : List ℕ) (d : ℕ) → transcript t.answers ≡ t.sent ++ out → c.gathered ≡ [] → g ≡ [] → d ≡ c.direct + n → pending_output c t ≡ take n (drop c.direct out) ++ (g ++ drop d (unsent t))
direct_left c t out n g d waits none none' direct =
    due_direct c t out waits none ∙ sym (take-append-drop n (drop c.direct out)) ∙ ap (λ (b : List ℕ). take n (drop c.direct out) ++ b)
    (drop-drop n c.direct out ∙ ap (λ (k : ℕ). drop k out) (sym direct) ∙ sym (ap (λ (b : List ℕ). b ++ drop d (unsent t)) none' ∙ ap (λ (b : List ℕ). drop d b) (unsent_is t out waits)))

pub gathered_left : {H S : Type 0} (c : Connection H S) (t : SessionState) (n : ℕ) (g : List ℕ) → g ≡ drop n c.gathered → pending_output c t ≡ take n c.gathered ++ (g ++ drop c.direct (unsent t))
gathered_left c t n g e =
    ap (λ (b : List ℕ). b ++ drop c.direct (unsent t)) (sym (take-append-drop n c.gathered)) ∙ append_assoc (take n c.gathered) (drop n c.gathered) (drop c.direct (unsent t))
    ∙ ap (λ (b : List ℕ). take n c.gathered ++ (b ++ drop c.direct (unsent t))) (sym e)

-- ---- several steps

pub moved_same : {H S : Type 0} (c c1 c' : Connection H S) (p p1 p' : Progress) → rank c' ≡ rank c1 → amount p' ≡ amount p1 → HasStepped c c1 p p1 → HasStepped c c' p p'
moved_same c c1 c' p p1 p' r a (inl h) = inl (omega (arith, a, h))
moved_same c c1 c' p p1 p' r a (inr h) = inr (omega (arith, a, h.0), omega (arith, r, h.1))

pub moved_by : {H S : Type 0} (steps : ℕ) (c c' : Connection H S) (p₀ p p' : Progress) → HasSteppedBy steps c p₀ p → HasStepped c c' p p' → HasSteppedBy (steps + 1) c' p₀ p'
moved_by steps c c' p₀ p p' (inl h) (inl m) = inl (omega (arith, h, m))
moved_by steps c c' p₀ p p' (inl h) (inr m) = inl (omega (arith, h, m.0))
moved_by steps c c' p₀ p p' (inr h) (inl m) = inl (omega (arith, h.0, m))
moved_by steps c c' p₀ p p' (inr h) (inr m) = inr (omega (arith, h.0, m.0), omega (arith, h.1, m.1))

few_states : (s : ServeState) → state_rank s ≤ 1
few_states Processing = omega arith
few_states Waiting = omega arith
few_states (Ending o) = omega arith

few_inputs : (i : InputState) → input_rank i ≤ 1
few_inputs Open = omega arith
few_inputs AtEnd = omega arith
few_inputs Failed = omega arith

pub moved_none : {H S : Type 0} (c : Connection H S) (p : Progress) → HasSteppedBy 0 c p p
moved_none c p = inr (omega arith, omega (arith, few_states c.state, few_inputs c.input))

pub moved_at_last : {H S : Type 0} (steps : ℕ) (c : Connection H S) (p₀ p : Progress) → 2 < steps → HasSteppedBy steps c p₀ p → amount p₀ < amount p
moved_at_last steps c p₀ p many (inl h) = h
moved_at_last steps c p₀ p many (inr h) = absurd (omega (arith, h.1, many))

pub line_may_end : (work : ℕ) (from now : StreamView) (p : Progress) → Rose from.failed now.failed → MayEnd (Err fault.Line) work from now p
line_may_end work from now p rose = (record { written = λ no. absurd (no refl); spent = tt; closed = ended_none p.state }, rose)

-- the same, since an earlier time
pub returns_since : {H S : Type 0} (held work : ℕ) (from now : StreamView) (w : Wants) (c : Connection H S) (p₀ p p' : Progress) → amount p₀ ≤ amount p → Returns w held work from now c p p' → Returns w held work from now c p₀ p'
returns_since held work from now Read c p₀ p p' before h = h
returns_since held work from now Write c p₀ p p' before h = h
returns_since held work from now Both c p₀ p p' before h = h
returns_since held work from now Again c p₀ p p' before h = (h.0, omega (arith, h.1, before))
returns_since held work from now (Ended (Ok cause)) c p₀ p p' before h = h
returns_since held work from now (Ended (Err f)) c p₀ p p' before h = h

pub returns_same : {H S : Type 0} (held work : ℕ) (from now : StreamView) (w : Wants) (c : Connection H S) (p p1 p' : Progress) → p1 ≡ p → Returns w held work from now c p1 p' → Returns w held work from now c p p'
returns_same held work from now w c p p1 p' e h = subst (λ (q : Progress). Returns w held work from now c q p') e h

pub moved_at_least : {H S : Type 0} (steps : ℕ) (c : Connection H S) (p₀ p : Progress) → HasSteppedBy steps c p₀ p → amount p₀ ≤ amount p
moved_at_least steps c p₀ p (inl h) = omega (arith, h)
moved_at_least steps c p₀ p (inr h) = h.0

moved_since : {H S : Type 0} (c c1 c' : Connection H S) (p p1 p' : Progress) → rank c1 ≡ rank c → p1 ≡ p → HasStepped c1 c' p1 p' → HasStepped c c' p p'
moved_since c c1 c' p p1 p' r e (inl h) = inl (omega (arith, h, ap amount e))
moved_since c c1 c' p p1 p' r e (inr h) = inr (omega (arith, h.0, ap amount e), omega (arith, h.1, r))

pub turned_since : {H S : Type 0} (held work : ℕ) (from now : StreamView) (r : Option Wants) (c c1 c' : Connection H S) (p p1 p' : Progress) → rank c1 ≡ rank c → p1 ≡ p → HasTurned r held work from now c1 c' p1 p' → HasTurned r held work from now c c' p p'
turned_since held work from now None c c1 c' p p1 p' r e h = (h.0, moved_since c c1 c' p p1 p' r e h.1)
turned_since held work from now (Some w) c c1 c' p p1 p' r e h = returns_same held work from now w c' p p1 p' e h

served_rested : {H S : Type 0} {held work work' : ℕ} {from now : StreamView} {p : Progress} (c c' : Connection H S) → c'.gathered ≡ c.gathered → c'.direct ≡ c.direct → c'.ahead ≡ c.ahead → c'.state ≡ c.state → c'.input ≡ c.input → work' ≡ work → IsServing held work from now c p → IsServing held work' from now c' p
served_rested {held = held} {from = from} {now = now} {p = p} c c' g d a e i same s = subst (λ (k : ℕ). IsServing held k from now c' p) (sym same) (served_same c c' g d a e i s)

reads_no_further : {H S : Type 0} (c c' : Connection H S) → c'.ahead ≡ c.ahead → c'.state ≡ c.state → c'.input ≡ c.input → ReadsNoFurther c → ReadsNoFurther c'
reads_no_further c c' a e i (inl h) = inl (omega (arith, h, a))
reads_no_further c c' a e i (inr (inl h)) = inr (inl (λ o. h (sym i ∙ o)))
reads_no_further c c' a e i (inr (inr h)) = inr (inr (h.0, e ∙ h.1))

-- the host has released what others wait for
pub returns_rested : {H S : Type 0} (held work work' : ℕ) (from now : StreamView) (w : Wants) (c c' : Connection H S) (p p' : Progress) → ((o : _) → w ≢ Ended o) → c'.gathered ≡ c.gathered → c'.direct ≡ c.direct → c'.ahead ≡ c.ahead → c'.state ≡ c.state → c'.input ≡ c.input → work' ≡ work
    → Returns w held work from now c p p' → Returns w held work' from now c' p p'
returns_rested held work work' from now Read c c' p p' going g d a e i same h = (served_rested c c' g d a e i same h.0, h.1)
returns_rested held work work' from now Write c c' p p' going g d a e i same h = (served_rested c c' g d a e i same h.0, h.1, reads_no_further c c' a e i h.2)
returns_rested held work work' from now Both c c' p p' going g d a e i same h = (served_rested c c' g d a e i same h.0, h.1)
returns_rested held work work' from now Again c c' p p' going g d a e i same h = (served_rested c c' g d a e i same h.0, h.1)
returns_rested held work work' from now (Ended o) c c' p p' going g d a e i same h = absurd (going o refl)

-- some bytes of the rest of a slice were written
pub took_some : (out : List ℕ) (d k n : ℕ) → k ≡ d → 0 < length (drop d out) → (0 < length (take (length out - k) (drop k out)) → 0 < n) → n ≤ length (take (length out - k) (drop k out)) → 0 < length (take n (drop d out))
took_some out d k n at some more fits =
    let whole : length (take (length out - k) (drop k out)) ≡ length (drop d out) = ap (λ (b : List ℕ). length b) (take_all (length out - k) (drop k out) (omega (arith, length-drop k out))) ∙ ap (λ (j : ℕ). length (drop j out)) at in
    omega (arith, some, more (omega (arith, some, whole)), fits, whole, length-take n (drop d out))

-- ---- parts of reads

-- the prefix of a read buffer that a read has filled
pub read_from : (now now' : StreamView) (n len : ℕ) (buffer old : List ℕ) → length buffer ≡ len → Consumes now.incoming now'.incoming (take n buffer) → now'.outgoing ≡ now.outgoing → now.failed ≤ now'.failed → IsReadFrom now now' (take n (take len (buffer ++ drop (length buffer) old)))
read_from now now' n len buffer old count consumes same more = record {
  consumes = subst (λ (b : List ℕ). Consumes now.incoming now'.incoming (take n b)) (sym (take_at buffer (drop (length buffer) old) len count)) consumes;
  outgoing = same;
  failures = more;
}

pub some_read : (n len : ℕ) (buffer old : List ℕ) → length buffer ≡ len → 0 < n → n ≤ length buffer → 0 < length (take n (take len (buffer ++ drop (length buffer) old)))
some_read n len buffer old count some fits =
    subst (λ (b : List ℕ). 0 < length (take n b)) (sym (take_at buffer (drop (length buffer) old) len count)) (omega (arith, length-take n buffer, some, fits))

-- a read that failed read nothing
pub none_read : (now now' : StreamView) → Keeps now.incoming now'.incoming → now'.outgoing ≡ now.outgoing → now.failed ≤ now'.failed → IsReadFrom now now' []
none_read now now' kept same more = record { consumes = Consumes-kept now.incoming now.incoming now'.incoming [] (Consumes-nil now.incoming) kept; outgoing = same; failures = more }

-- ---- a session that waits

pub answers_all : (p : Progress) → IsRead p.state → HasWritten p → Waits p.state × (p.unfed ≡ []) → AnswersAll p
answers_all p read wrote waits =
    let t = p.state in
    let at = waits.0.0.rests in
    let whole : t.stream ++ p.unfed ≡ flat_map packet t.bodies ++ t.unread = ap (λ (b : List ℕ). t.stream ++ b) waits.1 ∙ append-nil t.stream ∙ rest_stream t at read in
    record {
      packets = subst (λ (b : List ℕ). Cuts b t.bodies (More t.unread)) (sym whole) (cuts_of t.bodies t.unread read.are_bodies waits.0.1);
      answered = rest_asked t at read;
      written = wrote.1 ∙ wrote.0;
    }

pub if_going : (w : Wants) (going gone : Type 0) → ((o : Result Cause ServeFault) → w ≢ Ended o) → going → IfEnded w going gone
if_going Read going gone never h = h
if_going Write going gone never h = h
if_going Both going gone never h = h
if_going Again going gone never h = h
if_going (Ended o) going gone never h = absurd (never o refl)

-- ---- a session that begins

pub serving_new : {H S : Type 0} (held work : ℕ) (now : StreamView) (c : Connection H S) → c.gathered ≡ [] → c.direct ≡ 0 → c.ahead ≡ 0 → c.state ≡ Waiting → c.input ≡ Open → IsServing held work now now c (progress new_state [] [])
serving_new held work now c g d a e i =
    let p = progress new_state [] [] in
    let few : 0 < 4 = omega arith in
    record {
      passed = record { bodies = read_new; read = Consumes-nil now.incoming; wrote = Appends-nil now.outgoing; begun = ([], none_written) };
      state = subst (λ (x : ServeState). IsInState x work p) (sym e) ((record { rests = refl; closed = refl }, inl few), refl);
      input = subst (λ (x : InputState). IsInput x now now) (sym i) tt;
      whole = sym (due_first c.gathered c.direct (unsent new_state) d ∙ ap (λ (b : List ℕ). b ++ unsent new_state) g);
      within = inl d;
      buffer = omega (arith, ap (λ (b : List ℕ). length b) g);
      few = omega (arith, ap (λ (b : List ℕ). length b) none_written);
      unread = omega arith;
      small = omega (arith, a);
      ahead = omega (arith, a);
      waits = λ at. a;
      failures = omega arith;
    }
