-- What passed over a stream, as a session progresses.
use Rattle.std.proofs.Common.{◌≡◌, ◌≤◌, ℕ, ◌+◌, List, [], ◌++◌, Bool, Option, length, drop, refl, ap, sym, ◌∙◌, subst, append-nil, length-append, arith}
use Rattle.std.proofs.Math.Seq.{drop-append_seam, drop-length}
use Rattle.std.specs.Io.KnownBytes.{Appends, Consumes, Keeps}
use Rattle.std.proofs.KnownBytes.{Appends-trans, Appends-kept, Consumes-trans}
use Rattle.sf_call.specs.ReplyKinds.{longest_packet}
use Rattle.sf_session.specs.Responses.{Response, transcript, has_begun}
use Rattle.sf_session.specs.SessionStates.{Phase, Resting, UnderWay, Decided, Gone, SessionState, fed, unsent, IsRest, IsRead}
use Rattle.sf_connection.specs.Hosts.{IsFront, HasSent, IsFurther, with_sent, ended}
use Rattle.sf_connection.specs.Progress.{Progress, progress}
use Rattle.std.specs.List.{flat_map}
use Rattle.std.proofs.lemmas.List.Concat.{flat_map-append}
use Rattle.sf_field.specs.Fields.{packet}
use Rattle.sf_connection.proofs.Fronts.{transcript_append, begun_more, batch_most}
use Rattle.sf_connection.proofs.Sessions.{rest_stream, read_fed, read_sent, read_closed, ended_same}
use Rattle.sf_connection.specs.Streams.{StreamView}
use Rattle.sf_connection.specs.Connections.{HasPassed}
use Rattle.sf_connection.specs.Steps.{IsReadFrom}

-- ---- the output that the host has not sent

pub unsent_is : (t : SessionState) (out : List ℕ) → transcript t.answers ≡ t.sent ++ out → unsent t ≡ out
unsent_is t out e = ap (drop (length t.sent)) e ∙ drop-append_seam t.sent out

pub unsent_none : (t : SessionState) → HasSent t → unsent t ≡ []
unsent_none t e = unsent_is t [] (sym e ∙ sym (append-nil t.sent))

pub unsent_sent : (t : SessionState) → unsent (with_sent t) ≡ []
unsent_sent t = drop-length (transcript t.answers)

pub sent_none : (t : SessionState) (out : List ℕ) → transcript t.answers ≡ t.sent ++ out → out ≡ [] → HasSent t
sent_none t out e none = sym (e ∙ ap (λ (b : List ℕ). t.sent ++ b) none ∙ append-nil t.sent)

-- more packets are answered
pub all_made : {held : ℕ} (t t' : SessionState) → (further : IsFurther held t t') → transcript t'.answers ≡ transcript t.answers ++ transcript further.answers.0
all_made t t' further = ap transcript further.answers.1 ∙ transcript_append t.answers further.answers.0

-- then these are the new replies
pub unsent_more : {held : ℕ} (t t' : SessionState) → HasSent t → (further : IsFurther held t t') → unsent t' ≡ transcript further.answers.0
unsent_more t t' e further =
    let made = further.answers.0 in
    unsent_is t' (transcript made) (all_made t t' further ∙ ap (λ (b : List ℕ). b ++ transcript made) (sym (further.sent ∙ e)))

pub unsent_few : {held : ℕ} (t t' : SessionState) → HasSent t → IsFurther held t t' → length (unsent t') ≤ held + longest_packet
unsent_few {held = held} t t' e further =
    subst (λ (b : List ℕ). length b ≤ held + longest_packet) (sym (unsent_more t t' e further)) (batch_most held further.answers.0 further.batch)

-- ---- what passed

pub passed_sent : {from now : StreamView} {p : Progress} → HasPassed from now p → HasPassed from now (progress (with_sent p.state) p.unfed p.written)
passed_sent {p = p} S = record { bodies = read_sent p.state S.bodies; read = S.read; wrote = S.wrote; begun = S.begun }

pub passed_still : {from now now' : StreamView} {p : Progress} → now'.incoming ≡ now.incoming → Keeps now.outgoing now'.outgoing → HasPassed from now p → HasPassed from now' p
passed_still {from = from} {now = now} {now' = now'} {p = p} i o S = record {
  bodies = S.bodies;
  read = subst (λ (x : Option (List ℕ)). Consumes from.incoming x (p.state.stream ++ p.unfed)) (sym i) S.read;
  wrote = Appends-kept from.outgoing now.outgoing now'.outgoing p.written S.wrote o;
  begun = S.begun;
}

pub passed_wrote : {from now now' : StreamView} {p : Progress} (bytes rest : List ℕ) → now'.incoming ≡ now.incoming → Appends now.outgoing now'.outgoing bytes → transcript p.state.answers ≡ (p.written ++ bytes) ++ rest
    → HasPassed from now p → HasPassed from now' (progress p.state p.unfed (p.written ++ bytes))
passed_wrote {from = from} {now = now} {now' = now'} {p = p} bytes rest i more whole S = record {
  bodies = S.bodies;
  read = subst (λ (x : Option (List ℕ)). Consumes from.incoming x (p.state.stream ++ p.unfed)) (sym i) S.read;
  wrote = Appends-trans from.outgoing now.outgoing now'.outgoing p.written bytes S.wrote more;
  begun = (rest, whole);
}

pub passed_further : {held : ℕ} {from now : StreamView} {p : Progress} {t' : SessionState} → IsFurther held p.state t' → HasPassed from now p → HasPassed from now (progress t' p.unfed p.written)
passed_further {from = from} {now = now} {p = p} {t' = t'} further S = record {
  bodies = further.read;
  read = subst (λ (b : List ℕ). Consumes from.incoming now.incoming (b ++ p.unfed)) (sym further.stream) S.read;
  wrote = S.wrote;
  begun = begun_more p.written p.state.answers t'.answers S.begun further.answers;
}

pub passed_read : {from now now' : StreamView} {p : Progress} {bytes : List ℕ} → p.unfed ≡ [] → IsReadFrom now now' bytes → HasPassed from now p → HasPassed from now' (progress p.state bytes p.written)
passed_read {from = from} {now = now} {now' = now'} {p = p} {bytes = bytes} none by S =
    let before : Consumes from.incoming now.incoming p.state.stream = subst (λ (b : List ℕ). Consumes from.incoming now.incoming b) (ap (λ (b : List ℕ). p.state.stream ++ b) none ∙ append-nil p.state.stream) S.read in
    record {
      bodies = S.bodies;
      read = Consumes-trans from.incoming now.incoming now'.incoming p.state.stream bytes before by.consumes;
      wrote = subst (λ (x : Option (List ℕ)). Appends from.outgoing x p.written) (sym by.outgoing) S.wrote;
      begun = S.begun;
    }

pub passed_fed : {from now : StreamView} (t : SessionState) (bytes written : List ℕ) → t.phase ≡ Resting → HasPassed from now (progress t bytes written) → HasPassed from now (progress (fed t bytes) [] written)
passed_fed {from = from} {now = now} t bytes written at S = record {
  bodies = read_fed t bytes at S.bodies;
  read = subst (λ (b : List ℕ). Consumes from.incoming now.incoming b) (sym (append-nil (t.stream ++ bytes))) S.read;
  wrote = S.wrote;
  begun = S.begun;
}

pub passed_ended : {from now : StreamView} {p : Progress} → HasPassed from now p → HasPassed from now (progress (ended p.state) p.unfed p.written)
passed_ended {from = from} {now = now} {p = p} S =
    let t = p.state in
    let same = ended_same t in
    record {
      bodies = read_closed t t.phase refl S.bodies;
      read = subst (λ (b : List ℕ). Consumes from.incoming now.incoming (b ++ p.unfed)) (sym same.stream) S.read;
      wrote = S.wrote;
      begun = subst (λ (a : List Response). IsFront p.written (transcript a)) (sym same.answers) S.begun;
    }

-- ---- unread bytes

left_less : (begun : Bool) (phase : Phase) (unread rest : List ℕ) → IsRest begun phase unread rest → length unread ≤ length rest
left_less begun Resting unread rest e = omega (arith, ap (λ (b : List ℕ). length b) e)
left_less begun (UnderWay id n m q moves) unread rest e = omega (arith, ap (λ (b : List ℕ). length b) e)
left_less begun (Decided id n q reply) unread rest e = omega (arith, ap (λ (b : List ℕ). length b) e)
left_less begun (Gone cause) unread rest h = omega (arith, ap (λ (b : List ℕ). length b) h.0)

-- they become no more as packets are processed
pub unread_less : {held : ℕ} (t t' : SessionState) → t.phase ≡ Resting → IsRead t → IsFurther held t t' → length t'.unread ≤ length t.unread
unread_less t t' at read further =
    let now = further.read in
    let left = left_less (has_begun t'.bodies) t'.phase t'.unread now.rest now.left in
    let more = further.bodies.0 in
    let stream = ap (λ (b : List ℕ). length b) (rest_stream t at read) in
    let stream' = ap (λ (b : List ℕ). length b) now.stream in
    let same = ap (λ (b : List ℕ). length b) further.stream in
    let bodies = ap (λ (b : List (List ℕ)). length (flat_map packet b)) further.bodies.1 in
    omega (arith, left, stream, stream', same, bodies, ap (λ (b : List ℕ). length b) (flat_map-append packet t.bodies more), length-append (flat_map packet t.bodies) (flat_map packet more), length-append (flat_map packet t.bodies) t.unread, length-append (flat_map packet t'.bodies) now.rest)
