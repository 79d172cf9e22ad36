-- A session: it is idle, is fed, and ends.
use Rattle.std.proofs.Common.{◌≡◌, ◌≢◌, ◌≤◌, ℕ, List, [], ◌∷◌, ◌++◌, Bool, false, map, refl, ap, sym, ◌∙◌, subst, inl, inr, append-nil, append_assoc, arith}
use Rattle.std.specs.List.{AllByRecursion, flat_map}
use Rattle.std.proofs.lemmas.Bool.{cases_lt}
use Rattle.sf_field.specs.Fields.{packet}
use Rattle.sf_wire.specs.declared.cutting.Cut.TheVariants as cut
use Rattle.sf_wire.specs.Packets.{IsBody, IsCut, More, Cuts}
use Rattle.sf_line.specs.Lines.{Rose}
use Rattle.sf_session.specs.declared.asking.Ask.{Ask}
use Rattle.sf_session.specs.declared.cause.Cause.{Cause}
use Rattle.sf_session.specs.declared.cause.Cause.TheVariants.{Closed}
use Rattle.sf_session.specs.declared.fault.ServeFault.{ServeFault}
use Rattle.sf_session.specs.declared.fault.ServeFault.TheVariants as fault
use Rattle.sf_session.specs.Responses.{Response, ask_behind, transcript, has_begun, AreAsked}
use Rattle.sf_session.specs.SessionStates.{Phase, Resting, Gone, SessionState, new_state, is_here, TakesNone, fed, closed_now, left_for, pending, asks_of, IsRest, IsRead}
use Rattle.sf_connection.specs.Ends.{IsEnd, IsWhole}
use Rattle.sf_connection.specs.Hosts.{Waits, IsHostFault, with_sent, ended}
use Rattle.sf_connection.specs.Progress.{Progress, HasWritten, IsSpentFor, IsStop}
use Rattle.sf_connection.specs.Steps.{over}

-- ---- an idle session

-- nothing is pending
settled : (bodies : List (List ℕ)) (answers : List Response) (phase : Phase) → pending phase ≡ [] → AreAsked false bodies (asks_of answers phase) → AreAsked false bodies (map ask_behind answers)
settled bodies answers phase none asked =
    subst (λ (asks : List Ask). AreAsked false bodies asks) (ap (λ (more : List Ask). map ask_behind answers ++ more) none ∙ append-nil (map ask_behind answers)) asked

pub rest_asked : (t : SessionState) → t.phase ≡ Resting → IsRead t → AreAsked false t.bodies (map ask_behind t.answers)
rest_asked t at read = settled t.bodies t.answers t.phase (ap pending at) read.asked

-- its stream is the packets of its bodies and the unread bytes
rest_left : (t : SessionState) → t.phase ≡ Resting → (read : IsRead t) → t.unread ≡ read.rest
rest_left t at read = subst (λ (f : Phase). IsRest (has_begun t.bodies) f t.unread read.rest) at read.left

pub rest_stream : (t : SessionState) → t.phase ≡ Resting → (read : IsRead t) → t.stream ≡ flat_map packet t.bodies ++ t.unread
rest_stream t at read = read.stream ∙ ap (λ (b : List ℕ). flat_map packet t.bodies ++ b) (sym (rest_left t at read))

pub cuts_of : (bodies : List (List ℕ)) (rest : List ℕ) → AllByRecursion IsBody bodies → IsCut rest cut.More → Cuts (flat_map packet bodies ++ rest) bodies (More rest)
cuts_of [] rest bs c = (refl, c)
cuts_of (body ∷ bodies) rest bs c = (flat_map packet bodies ++ rest, bs.0, append_assoc (packet body) (flat_map packet bodies) rest, cuts_of bodies rest bs.1 c)

-- ---- what was read, as the session progresses

pub read_new : IsRead new_state
unfolding AreAsked
read_new = record { rest = []; are_bodies = tt; stream = refl; left = refl; asked = tt }

pub read_fed : (t : SessionState) (bytes : List ℕ) → t.phase ≡ Resting → IsRead t → IsRead (fed t bytes)
read_fed t bytes at read =
    let P : Phase → Type 0 = λ f. IsRest (has_begun t.bodies) f (t.unread ++ bytes) (read.rest ++ bytes) in
    record {
      rest = read.rest ++ bytes;
      are_bodies = read.are_bodies;
      stream = ap (λ (b : List ℕ). b ++ bytes) read.stream ∙ append_assoc (flat_map packet t.bodies) read.rest bytes;
      left = subst P (sym at) (ap (λ (b : List ℕ). b ++ bytes) (rest_left t at read));
      asked = read.asked;
    }

pub read_sent : (t : SessionState) → IsRead t → IsRead (with_sent t)
read_sent t read = record { rest = read.rest; are_bodies = read.are_bodies; stream = read.stream; left = read.left; asked = read.asked }

pub read_closed : (t : SessionState) (f : Phase) → t.phase ≡ f → IsRead t → IsRead (closed_now t f)
read_closed t Resting at read = record {
  rest = read.rest;
  are_bodies = read.are_bodies;
  stream = read.stream;
  left = (refl, inl refl);
  asked = subst (λ (asks : List Ask). AreAsked false t.bodies asks) (sym (append-nil (map ask_behind t.answers))) (rest_asked t at read);
}
read_closed t f at read = record { rest = read.rest; are_bodies = read.are_bodies; stream = read.stream; left = read.left; asked = read.asked }

-- ending changes nothing of what was fed, read, answered and sent
pub record IsSame (t t' : SessionState) : Type 0 where
  pub stream : t'.stream ≡ t.stream
  pub bodies : t'.bodies ≡ t.bodies
  pub answers : t'.answers ≡ t.answers
  pub sent : t'.sent ≡ t.sent

closed_same : (t : SessionState) (f : Phase) → IsSame t (closed_now t f)
closed_same t Resting = record { stream = refl; bodies = refl; answers = refl; sent = refl }
closed_same t f = record { stream = refl; bodies = refl; answers = refl; sent = refl }

pub ended_same : (t : SessionState) → IsSame t (ended t)
ended_same t = closed_same t t.phase

-- a session that has ended accepts no more input
takes_none : (t : SessionState) (f : Phase) → t.phase ≡ f → TakesNone (closed_now t f)
takes_none t Resting at = inr refl
takes_none t (Gone cause) at = inr (ap (λ (f : Phase). is_here (record t { phase = f })) at)
takes_none t f at = inl refl

pub ended_none : (t : SessionState) → TakesNone (ended t)
ended_none t = takes_none t t.phase refl

-- ---- how a session ends

-- a session that a packet or a wrong length ended
ends_by : (begun : Bool) (phase : Phase) (unread rest : List ℕ) (cause : Cause) → phase ≡ Gone cause → cause ≢ Closed → IsRest begun phase unread rest → IsEnd begun rest cause
ends_by begun phase unread rest cause at other left =
    let gone : IsRest begun (Gone cause) unread rest = subst (λ (f : Phase). IsRest begun f unread rest) at left in
    elim gone.1 [ inl e ↦ absurd (other e) | inr h ↦ inr h ]

pub whole_left : (t : SessionState) (cause : Cause) → IsRead t → t.phase ≡ Gone cause → cause ≢ Closed → IsWhole t cause
whole_left t cause read at other = record {
  left = at;
  rest = read.rest;
  are_bodies = read.are_bodies;
  stream = read.stream;
  end = ends_by (has_begun t.bodies) t.phase t.unread read.rest cause at other read.left;
  asked = settled t.bodies t.answers t.phase (ap pending at) read.asked;
}

-- a session that was closed while idle
whole_closed : (t : SessionState) → IsRead t → t.phase ≡ Resting → IsCut t.unread cut.More → IsWhole (left_for t Closed) Closed
whole_closed t read at no_more = record {
  left = refl;
  rest = read.rest;
  are_bodies = read.are_bodies;
  stream = read.stream;
  end = inl (refl, subst (λ (b : List ℕ). IsCut b cut.More) (rest_left t at read) no_more);
  asked = rest_asked t at read;
}

pub closed_whole : (t : SessionState) → IsRead t → Waits t → IsWhole (ended t) Closed
closed_whole t read waits = subst (λ (f : Phase). IsWhole (closed_now t f) Closed) (sym waits.0.rests) (whole_closed t read waits.0.rests waits.1)

-- a session that has ended is unchanged
pub gone_whole : (t : SessionState) (cause : Cause) → IsWhole t cause → IsWhole (ended t) cause
gone_whole t cause whole = subst (λ (f : Phase). IsWhole (closed_now t f) cause) (sym whole.left) whole

pub sent_whole : (t : SessionState) (cause : Cause) → IsWhole t cause → IsWhole (with_sent t) cause
sent_whole t cause h = record { left = h.left; rest = h.rest; are_bodies = h.are_bodies; stream = h.stream; end = h.end; asked = h.asked }

-- ending a session doesn't change what was sent
pub written_ended : (p : Progress) → HasWritten p → HasWritten (over p)
written_ended p h =
    let same = ended_same p.state in
    (same.sent ∙ h.0 ∙ ap transcript (sym same.answers), h.1 ∙ sym same.sent)

-- ---- errors

pub rose_since : (start old new : ℕ) → start ≤ old → old ≤ new → Rose old new → Rose start new
rose_since start old new before more (inl rose) = inl (omega arith)
rose_since start old new before more (inr most) = elim (cases_lt start new) [ inl lt ↦ inl lt | inr ge ↦ inr (omega arith) ]

pub rose_until : (start old new : ℕ) → old ≤ new → Rose start old → Rose start new
rose_until start old new more (inl rose) = inl (omega arith)
rose_until start old new more (inr most) = inr most

pub host_stop : (f : ServeFault) (work failed failed' : ℕ) → IsHostFault f work → IsStop f failed failed'
host_stop fault.Line work failed failed' h = absurd h
host_stop fault.Sessions work failed failed' h = absurd h
host_stop f work failed failed' h = tt

pub host_spent : (f : ServeFault) (w : ℕ) (p : Progress) → IsHostFault f w → IsSpentFor f w p
host_spent fault.NumbersSpent w p h = inr h
host_spent f w p h = tt
