-- What happens to a session whose calls a lane makes: it joins, is fed, is answered, and ends.
use Rattle.std.proofs.Common.{◌≡◌, ◌<◌, ◌≤◌, ℕ, ◌+◌, List, [], ◌∷◌, ◌++◌, Bool, true, false, Option, Some, None, Result, Ok, Err, map, length, drop, refl, ap, sym, ◌∙◌, subst, inl, inr, append-nil, append_assoc, length-append, arith}
use Rattle.std.specs.List.{flat_map}
use Rattle.std.specs.Io.KnownBytes.{Appends}
use Rattle.std.proofs.KnownBytes.{Appends-nil, Appends-trans}
use Rattle.std.proofs.lemmas.List.{map-append}
use Rattle.std.proofs.lemmas.List.Concat.{flat_map-append}
use Rattle.sf_field.specs.Fields.{packet}
use Rattle.sf_wire.specs.declared.cutting.Cut.TheVariants as cut
use Rattle.sf_wire.specs.Packets.{IsBody, IsCut}
use Rattle.sf_call.specs.declared.request.Request.{Request}
use Rattle.sf_call.specs.declared.record.Record.{Record}
use Rattle.sf_call.specs.ReplyKinds.{longest_packet}
use Rattle.sf_core.specs.Cores.LaneState.{Idle}
use Rattle.sf_session.specs.declared.asking.Ask.{Ask}
use Rattle.sf_session.specs.declared.asking.Ask.TheVariants as ask
use Rattle.sf_session.specs.declared.cause.Cause.{Cause}
use Rattle.sf_session.specs.declared.fault.ServeFault.{ServeFault}
use Rattle.sf_session.specs.declared.session.Next.TheVariants as next
use Rattle.sf_session.specs.Asking.{AsksFor}
use Rattle.sf_session.specs.Sessions.{SessionView, Begins, NextGives, LocalPacket, EndsBy, new_session}
use Rattle.sf_session.specs.Responses.{Response, Version, Locally, ask_behind, packet_for, transcript, has_begun, AreAsked}
use Rattle.sf_session.specs.SessionStates.{Phase, Resting, UnderWay, Decided, Gone, SessionState, new_state, fed, closed_now, pending, asks_of, IsRest, IsRead, HasShortPacket}
use Rattle.sf_session.proofs.Laws.{all_push, begun_is, begun_push, asked_push, not_closed}
use Rattle.sf_connection.specs.declared.host.SessionStep.{SessionStep}
use Rattle.sf_connection.specs.declared.host.SessionStep.TheVariants as session_step
use Rattle.sf_connection.specs.Hosts.{IsOpen, HasSent, IsBatch, IsFurther, IsSessionStep, with_sent, ended}
use Rattle.sf_connection.proofs.Laws.{transcript_append, none_written, one_packet, front_all, rest_asked, rest_stream, ended_same, batch_none, batch_one}
use Rattle.sf_audit.specs.Audits.{CallRecord}
use Rattle.sf_pool.specs.declared.calling.Stop.{Stop}
use Rattle.sf_pool.specs.declared.calling.Stop.TheVariants as stop
use Rattle.sf_pool.specs.declared.session_lane.Begin.{Begin}
use Rattle.sf_pool.specs.declared.lane_host.Standing.{Standing}
use Rattle.sf_pool.specs.declared.lane_host.Standing.TheVariants as standing
use Rattle.sf_roll.specs.Seen.{IsPrefixOf}
use Rattle.sf_pool.specs.SessionLanes.{SessionLaneState, Joined, IsResting, SessionLaneView, HasSeenCalls, SeesOn}
use Rattle.sf_pool.specs.Scenes.{LaneScene, lane_scene, lane_held, response_calls, phase_calls, state_calls, Attempt, attempt_of, answer_attempts, phase_attempts, attempts_told, BeginsCalls, IsInCall}
use Rattle.sf_pool.specs.LaneHosts.{standing_fault, MakesCall, talk, FailsCall, LeavesCall, IsToldAt, standing_after, stop_fault}
use Rattle.sf_pool.proofs.Laws.{notes_none, notes_more}
use Rattle.sf_pool.proofs.Seeing.{sees_same, stands_on, stands_new}

-- ---- lists

begins_none : (tl : Option (List ℕ)) (b : Option (List Begin)) → BeginsCalls tl tl b b []
begins_none tl b = ([], notes_none b b refl, Appends-nil tl, refl)

begins_more : (x y z : LaneScene) {xs ys : List Attempt} → BeginsCalls x.moments y.moments x.begins y.begins xs → BeginsCalls y.moments z.moments y.begins z.begins ys → BeginsCalls x.moments z.moments x.begins z.begins (xs ++ ys)
begins_more x y z {xs = xs} p q =
    let moment_of : Begin → ℕ = λ x. x.moment in
    let moments = map-append moment_of p.0 q.0 in (
      p.0 ++ q.0,
      notes_more x.begins y.begins z.begins p.0 q.0 p.1 q.1,
      subst (λ (l : List ℕ). Appends x.moments z.moments l) (sym moments) (Appends-trans x.moments y.moments z.moments (map moment_of p.0) (map moment_of q.0) p.2 q.2),
      map-append attempt_of p.0 q.0 ∙ ap (λ (l : List Attempt). l ++ map attempt_of q.0) p.3 ∙ ap (λ (l : List Attempt). xs ++ l) q.3,
    )

-- ---- a session at rest

rest_calls : (t : SessionState) → t.phase ≡ Resting → state_calls t ≡ flat_map response_calls t.answers
rest_calls t at = ap (λ (f : Phase). flat_map response_calls t.answers ++ phase_calls f) at ∙ append-nil (flat_map response_calls t.answers)

rest_attempts : (t : SessionState) → t.phase ≡ Resting → attempts_told t ≡ flat_map answer_attempts t.answers
rest_attempts t at = ap (λ (f : Phase). flat_map answer_attempts t.answers ++ phase_attempts f) at ∙ append-nil (flat_map answer_attempts t.answers)

-- ---- it joins

pub told_new : {start : LaneScene} {d : SessionLaneView} {b : Option (List Begin)} {seen : List Record} {at : Standing} {v : SessionView} (session : ℕ) → b ≡ start.begins → d ≡ record start.lane { session = session; place = Joined Idle; calls = [] } → IsPrefixOf start.seen seen → HasSeenCalls seen d → v ≡ new_session → at ≡ standing.Joined
    → IsToldAt start at v (lane_scene d b start.moments seen) new_state
told_new {start = start} {d = d} {b = b} {seen = seen} {v = v} session none joins further own new at = subst (λ (s : Standing). IsToldAt start s v (lane_scene d b start.moments seen) new_state) (sym at) (record {
  notes = record {
    noted = ap (λ (x : SessionLaneView). x.calls) joins;
    keeps = ap (λ (x : SessionLaneView). x.keeps) joins;
    asked = subst (λ (x : Option (List Begin)). BeginsCalls start.moments start.moments start.begins x []) (sym none) (begins_none start.moments start.begins);
    stands = stands_new further own (ap (λ (x : SessionLaneView). x.calls) joins);
  };
  stands = λ at. record { unread = ap (λ (x : SessionView). x.unread) new; begun = ap (λ (x : SessionView). x.begun) new; ended = ap (λ (x : SessionView). x.ended) new };
  waits = none_written ∙ sym (ap (λ (x : SessionView). x.output) new);
  leaves = tt;
})

-- ---- it is fed, and told what was sent

-- a call under way is still under way
leaves_same : (at : Standing) (d : SessionLaneView) (t t' : SessionState) → (IsInCall d.place t.phase → IsInCall d.place t'.phase) → LeavesCall at d t → LeavesCall at d t'
leaves_same standing.Joined d t t' to h = tt
leaves_same standing.Unanswered d t t' to h = tt
leaves_same standing.UnderWay d t t' to h = to h
leaves_same standing.Left d t t' to h = tt

pub told_fed : {start now : LaneScene} {at : Standing} {v w : SessionView} {t : SessionState} (bytes : List ℕ) → IsToldAt start at v now t → IsOpen t → w ≡ record v { unread = v.unread ++ bytes } → IsToldAt start at w now (fed t bytes)
told_fed {now = now} {at = at} {t = t} bytes h is_open is =
    let s = h.stands is_open.rests in
    record {
      notes = record { noted = h.notes.noted; keeps = h.notes.keeps; asked = h.notes.asked; stands = h.notes.stands };
      stands = λ rests. record {
        unread = ap (λ (x : SessionView). x.unread) is ∙ ap (λ (b : List ℕ). b ++ bytes) s.unread;
        begun = ap (λ (x : SessionView). x.begun) is ∙ s.begun;
        ended = ap (λ (x : SessionView). x.ended) is ∙ s.ended;
      };
      waits = h.waits ∙ ap (λ (x : SessionView). t.sent ++ x.output) (sym is);
      leaves = leaves_same at now.lane t (fed t bytes) (λ i. i) h.leaves;
    }

drop_whole : (xs : List ℕ) → drop (length xs) xs ≡ []
drop_whole [] = refl
drop_whole (x ∷ xs) = drop_whole xs

pub told_sent : {start now : LaneScene} {at : Standing} {v w : SessionView} {t : SessionState} {n : ℕ} → IsToldAt start at v now t → n ≡ length v.output → w ≡ record v { output = drop n v.output } → IsToldAt start at w now (with_sent t)
told_sent {now = now} {at = at} {v = v} {w = w} {t = t} h count is =
    let none : w.output ≡ [] = ap (λ (x : SessionView). x.output) is ∙ ap (λ (k : ℕ). drop k v.output) count ∙ drop_whole v.output in
    record {
      notes = record { noted = h.notes.noted; keeps = h.notes.keeps; asked = h.notes.asked; stands = h.notes.stands };
      stands = λ rests.
          let s = h.stands rests in
          record { unread = ap (λ (x : SessionView). x.unread) is ∙ s.unread; begun = ap (λ (x : SessionView). x.begun) is ∙ s.begun; ended = ap (λ (x : SessionView). x.ended) is ∙ s.ended };
      waits = sym (append-nil (transcript t.answers)) ∙ ap (λ (b : List ℕ). transcript t.answers ++ b) (sym none);
      leaves = leaves_same at now.lane t (with_sent t) (λ i. i) h.leaves;
    }

-- a lane that rests is where it was
pub told_still : {start : LaneScene} {at : Standing} {v : SessionView} {d d' : SessionLaneView} {b b' : Option (List Begin)} {tl : Option (List ℕ)} {s s' : List Record} {t : SessionState} → d' ≡ d → b' ≡ b → s' ≡ s → IsToldAt start at v (lane_scene d b tl s) t → IsToldAt start at v (lane_scene d' b' tl s') t
told_still {start = start} {at = at} {v = v} {d' = d'} {b = b} {b' = b'} {tl = tl} {s = s} {t = t} p q r h =
    subst (λ (x : List Record). IsToldAt start at v (lane_scene d' b' tl x) t) (sym r)
    (subst (λ (x : Option (List Begin)). IsToldAt start at v (lane_scene d' x tl s) t) (sym q) (subst (λ (x : SessionLaneView). IsToldAt start at v (lane_scene x b tl s) t) (sym p) h))

-- ---- it ends

closed_calls : (t : SessionState) (f : Phase) → t.phase ≡ f → state_calls (closed_now t f) ≡ state_calls t
closed_calls t Resting at = ap (λ (f : Phase). flat_map response_calls t.answers ++ phase_calls f) (sym at)
closed_calls t f at = refl

closed_attempts : (t : SessionState) (f : Phase) → t.phase ≡ f → attempts_told (closed_now t f) ≡ attempts_told t
closed_attempts t Resting at = ap (λ (f : Phase). flat_map answer_attempts t.answers ++ phase_attempts f) (sym at)
closed_attempts t f at = refl

closed_in_call : (place : SessionLaneState) (t : SessionState) (f : Phase) → t.phase ≡ f → IsInCall place t.phase → IsInCall place (closed_now t f).phase
closed_in_call place t Resting at h = absurd (let no : Resting ≡ UnderWay h.id h.number h.moment h.request h.moves = sym at ∙ h.waits in cc)
closed_in_call place t f at h = h

never_rests : (t : SessionState) (f : Phase) → t.phase ≡ f → (closed_now t f).phase ≡ Resting → ⊥
never_rests t Resting at e = cc
never_rests t f at e = let no : f ≡ Resting = sym at ∙ e in cc

-- it stands otherwise, or as it did
pub told_ended : {start : LaneScene} {at at' : Standing} {v : SessionView} {d d' : SessionLaneView} {b b' : Option (List Begin)} {tl : Option (List ℕ)} {s s' : List Record} {t : SessionState} → IsToldAt start at v (lane_scene d b tl s) t → d'.calls ≡ d.calls → d'.keeps ≡ d.keeps → b' ≡ b → SeesOn s d s' d'
    → (LeavesCall at d t → LeavesCall at' d' t) → IsToldAt start at' v (lane_scene d' b' tl s') (ended t)
told_ended {start = start} {at' = at'} {v = v} {d' = d'} {b' = b'} {tl = tl} {t = t} h calls keeps begins sees count =
    let same = ended_same t in
    let asked : BeginsCalls start.moments tl start.begins b' (attempts_told t) = subst (λ (x : Option (List Begin)). BeginsCalls start.moments tl start.begins x (attempts_told t)) (sym begins) h.notes.asked in
    record {
      notes = record {
        noted = calls ∙ h.notes.noted ∙ sym (closed_calls t t.phase refl);
        keeps = keeps ∙ h.notes.keeps;
        asked = subst (λ (l : List Attempt). BeginsCalls start.moments tl start.begins b' l) (sym (closed_attempts t t.phase refl)) asked;
        stands = stands_on h.notes.stands sees;
      };
      stands = λ rests. absurd (never_rests t t.phase refl rests);
      waits = ap transcript same.answers ∙ h.waits ∙ ap (λ (b : List ℕ). b ++ v.output) (sym same.sent);
      leaves = leaves_same at' d' t (ended t) (closed_in_call d'.place t t.phase refl) (count h.leaves);
    }

-- ---- it goes on

-- what its host's contract asks of going on
abbrev pub Goes : LaneScene → Standing → SessionView → LaneScene → Result SessionStep ServeFault → SessionState → Type 0
Goes start at v now r t = (t' : SessionState) × IsToldAt start at v now t' × IsFurther lane_held t t' × IsSessionStep r t t'

-- a session that its host lets go on
pub record MayGo (start now : LaneScene) (v : SessionView) (t : SessionState) : Type 0 where
  pub told : IsToldAt start standing.Joined v now t
  pub is_open : IsOpen t
  pub read : IsRead t
  pub sent : HasSent t

further_none : (t : SessionState) → IsRead t → IsFurther lane_held t t
further_none t read = record { stream = refl; sent = refl; bodies = front_all t.bodies; answers = ([], sym (append-nil t.answers)); batch = batch_none; read = read }

-- a host that stops at once
pub goes_not : {start now : LaneScene} {at : Standing} {v w : SessionView} (f : ServeFault) {t : SessionState} → IsToldAt start at v now t → IsRead t → HasSent t → w ≡ v → Goes start at w now (Err f) t
goes_not {start = start} {now = now} {at = at} f {t = t} h read sent same = (t, subst (λ (x : SessionView). IsToldAt start at x now t) (sym same) h, further_none t read, tt)

-- no whole packet is unread
pub goes_more : {start now : LaneScene} {at : Standing} {v w : SessionView} {t : SessionState} → IsToldAt start at v now t → IsOpen t → IsRead t → HasSent t → NextGives v next.More w → Goes start at w now (Ok session_step.Waits) t
goes_more {start = start} {now = now} {at = at} {t = t} h is_open read sent gives = (
  t,
  subst (λ (x : SessionView). IsToldAt start at x now t) (sym gives.2) h,
  further_none t read,
  (is_open, subst (λ (b : List ℕ). IsCut b cut.More) (h.stands is_open.rests).unread gives.1),
)

-- ---- a packet ends it

abbrev ended_by : SessionState → Cause → SessionState
ended_by t cause = record t { unread = []; phase = Gone cause }

ends_by : (v w : SessionView) (cause : Cause) → v.ended ≡ None → NextGives v (next.Ended cause) w → EndsBy v.begun v.unread cause
ends_by v w cause none (inl h) = let e : None ≡ Some cause = sym none ∙ h.0 in absurd (cc)
ends_by v w cause none (inr h) = h.1

ends_output : (v w : SessionView) (cause : Cause) → NextGives v (next.Ended cause) w → w.output ≡ v.output
ends_output v w cause (inl h) = ap (λ (x : SessionView). x.output) h.1
ends_output v w cause (inr h) = ap (λ (x : SessionView). x.output) h.2

pub goes_ended : {start now : LaneScene} {v w : SessionView} {cause : Cause} {t : SessionState} → MayGo start now v t → NextGives v (next.Ended cause) w → Goes start standing.Joined w now (Ok (session_step.Ended cause)) t
goes_ended {start = start} {now = now} {v = v} {w = w} {cause = cause} {t = t} go gives =
    let record { told = h; is_open = is_open; read = read; sent = sent } = go in
    let at = is_open.rests in
    let s = h.stands at in
    let ends : EndsBy (has_begun t.bodies) t.unread cause =
    subst (λ (g : Bool). EndsBy g t.unread cause) s.begun (subst (λ (b : List ℕ). EndsBy v.begun b cause) s.unread (ends_by v w cause s.ended gives)) in
    let asked : AreAsked false t.bodies (map ask_behind t.answers) = rest_asked t at read in
    let none : map ask_behind t.answers ++ [] ≡ map ask_behind t.answers = append-nil (map ask_behind t.answers) in
    let operations : state_calls (ended_by t cause) ≡ state_calls t = ap (λ (f : Phase). flat_map response_calls t.answers ++ phase_calls f) (sym at) in
    let attempts : attempts_told (ended_by t cause) ≡ attempts_told t = ap (λ (f : Phase). flat_map answer_attempts t.answers ++ phase_attempts f) (sym at) in (
      ended_by t cause,
      record {
        notes = record {
          noted = h.notes.noted ∙ sym operations;
          keeps = h.notes.keeps;
          asked = subst (λ (l : List Attempt). BeginsCalls start.moments now.moments start.begins now.begins l) (sym attempts) h.notes.asked;
          stands = h.notes.stands;
        };
        stands = λ rests. absurd (let no : Gone cause ≡ Resting = rests in cc);
        waits = h.waits ∙ ap (λ (b : List ℕ). t.sent ++ b) (sym (ends_output v w cause gives));
        leaves = tt;
      },
      record {
        stream = refl;
        sent = refl;
        bodies = front_all t.bodies;
        answers = ([], sym (append-nil t.answers));
        batch = batch_none;
        read = record {
          rest = t.unread;
          are_bodies = read.are_bodies;
          stream = rest_stream t at read;
          left = (refl, inr ends);
          asked = subst (λ (l : List Ask). AreAsked false t.bodies l) (sym none) asked;
        };
      },
      (
        record { left = refl; rest = t.unread; are_bodies = read.are_bodies; stream = rest_stream t at read; end = inr ends; asked = asked },
        λ closed. not_closed (has_begun t.bodies) t.unread cause closed ends,
      ),
    )

-- ---- a packet is answered

-- what a session shows, field by field
shown : (w : SessionView) (rest output : List ℕ) (waiting : Option ℕ) → w ≡ record { unread = rest; output = output; begun = true; waiting = waiting; ended = None } → w ≡ record w { unread = rest; output = output; begun = true; ended = None }
shown w rest output waiting is = subst (λ (x : SessionView). x ≡ record x { unread = rest; output = output; begun = true; ended = None }) (sym is) refl

-- a body more was read
bodies_pushed : (bodies : List (List ℕ)) (body rest : List ℕ) → flat_map packet (bodies ++ body ∷ []) ++ rest ≡ flat_map packet bodies ++ (packet body ++ rest)
bodies_pushed bodies body rest =
    ap (λ (b : List ℕ). b ++ rest) (flat_map-append packet bodies (body ∷ []) ∙ ap (λ (b : List ℕ). flat_map packet bodies ++ b) (append-nil (packet body)))
    ∙ append_assoc (flat_map packet bodies) (packet body) rest

-- a body of the session, and what is behind it
record Body (t : SessionState) (asked : Ask) : Type 0 where
  body : List ℕ
  rest : List ℕ
  whole : t.unread ≡ packet body ++ rest
  is_body : IsBody body
  asks : AsksFor (has_begun t.bodies) body asked

-- it was answered so, or its call has no reply: that is what the lane noted
record Noted (now now' : LaneScene) (asked : Ask) (more : List Response) (f : Phase) : Type 0 where
  asks : map ask_behind more ++ pending f ≡ asked ∷ []
  left : (begun : Bool) (bytes : List ℕ) → IsRest begun f bytes bytes
  noted : now'.lane.calls ≡ now.lane.calls ++ (flat_map response_calls more ++ phase_calls f)
  keeps : now'.lane.keeps ≡ now.lane.keeps
  begins : BeginsCalls now.moments now'.moments now.begins now'.begins (flat_map answer_attempts more ++ phase_attempts f)
  sees : SeesOn now.seen now.lane now'.seen now'.lane

abbrev after_body : SessionState → List ℕ → List ℕ → List Response → Phase → SessionState
after_body t body rest more f = record t { unread = rest; bodies = t.bodies ++ body ∷ []; answers = t.answers ++ more; phase = f }

-- a body more was read
goes_body : {start now now' : LaneScene} {at : Standing} {v w : SessionView} {t : SessionState} {asked : Ask} {more : List Response} {f : Phase} (r : Result SessionStep ServeFault) → MayGo start now v t → (b : Body t asked) → Noted now now' asked more f
    → w ≡ record w { unread = b.rest; output = v.output ++ transcript more; begun = true; ended = None } → IsBatch lane_held more → LeavesCall at now'.lane (after_body t b.body b.rest more f) → IsSessionStep r t (after_body t b.body b.rest more f) → Goes start at w now' r t
goes_body {start = start} {now = now} {now' = now'} {v = v} {t = t} {asked = asked} {more = more} {f = f} r go b n shows batch counts to =
    let h = go.told in
    let rests = go.is_open.rests in
    let t' = after_body t b.body b.rest more f in
    let calls = flat_map response_calls t.answers in
    let attempts = flat_map answer_attempts t.answers in
    let same_calls : calls ++ (flat_map response_calls more ++ phase_calls f) ≡ state_calls t' =
    sym (append_assoc calls (flat_map response_calls more) (phase_calls f)) ∙ ap (λ (l : List CallRecord). l ++ phase_calls f) (sym (flat_map-append response_calls t.answers more)) in
    let same_attempts : attempts ++ (flat_map answer_attempts more ++ phase_attempts f) ≡ attempts_told t' =
    sym (append_assoc attempts (flat_map answer_attempts more) (phase_attempts f)) ∙ ap (λ (l : List Attempt). l ++ phase_attempts f) (sym (flat_map-append answer_attempts t.answers more)) in
    let same_asks : map ask_behind t.answers ++ asked ∷ [] ≡ asks_of t'.answers f =
    ap (λ (l : List Ask). map ask_behind t.answers ++ l) (sym n.asks) ∙ sym (append_assoc (map ask_behind t.answers) (map ask_behind more) (pending f)) ∙ ap (λ (l : List Ask). l ++ pending f) (sym (map-append ask_behind t.answers more)) in
    let are_asked : AreAsked false t'.bodies (map ask_behind t.answers ++ asked ∷ []) =
    asked_push false t.bodies (map ask_behind t.answers) b.body asked (rest_asked t rests go.read) (subst (λ (x : Bool). AsksFor x b.body asked) (begun_is t.bodies) b.asks) in
    let begun : BeginsCalls start.moments now.moments start.begins now.begins attempts = subst (λ (l : List Attempt). BeginsCalls start.moments now.moments start.begins now.begins l) (rest_attempts t rests) h.notes.asked in (
      t',
      record {
        notes = record {
          noted = n.noted ∙ ap (λ (l : List CallRecord). l ++ (flat_map response_calls more ++ phase_calls f)) (h.notes.noted ∙ rest_calls t rests) ∙ same_calls;
          keeps = n.keeps ∙ h.notes.keeps;
          asked = subst (λ (l : List Attempt). BeginsCalls start.moments now'.moments start.begins now'.begins l) same_attempts
              (begins_more start now now' begun n.begins);
          stands = stands_on h.notes.stands n.sees;
        };
        stands = λ e. record { unread = ap (λ (x : SessionView). x.unread) shows; begun = ap (λ (x : SessionView). x.begun) shows ∙ sym (begun_push t.bodies b.body); ended = ap (λ (x : SessionView). x.ended) shows };
        waits = transcript_append t.answers more ∙ ap (λ (x : List ℕ). x ++ transcript more) h.waits ∙ append_assoc t.sent v.output (transcript more) ∙ ap (λ (x : SessionView). t.sent ++ x.output) (sym shows);
        leaves = counts;
      },
      record {
        stream = refl;
        sent = refl;
        bodies = (b.body ∷ [], refl);
        answers = (more, refl);
        batch = batch;
        read = record {
          rest = b.rest;
          are_bodies = all_push IsBody t.bodies b.body go.read.are_bodies b.is_body;
          stream = rest_stream t rests go.read ∙ ap (λ (x : List ℕ). flat_map packet t.bodies ++ x) b.whole ∙ sym (bodies_pushed t.bodies b.body b.rest);
          left = n.left (has_begun t'.bodies) b.rest;
          asked = subst (λ (l : List Ask). AreAsked false t'.bodies l) same_asks are_asked;
        };
      },
      to,
    )

one_longer : {A : Type 0} (xs : List A) (x : A) → length xs < length (xs ++ x ∷ [])
one_longer xs x = omega (arith, length-append xs (x ∷ []))

-- a body asked for this, and was answered so: its output follows
goes_answered : {start now now' : LaneScene} {v w : SessionView} {t : SessionState} (a : Response) → MayGo start now v t → (b : Body t (ask_behind a)) → w ≡ record w { unread = b.rest; output = v.output ++ packet_for a; begun = true; ended = None }
    → now'.lane.calls ≡ now.lane.calls ++ response_calls a → now'.lane.keeps ≡ now.lane.keeps → BeginsCalls now.moments now'.moments now.begins now'.begins (answer_attempts a) → SeesOn now.seen now.lane now'.seen now'.lane → HasShortPacket a → Goes start standing.Joined w now' (Ok session_step.Answered) t
goes_answered {now = now} {now' = now'} {v = v} {w = w} {t = t} a go b shows notes keeps begins sees short =
    let calls : response_calls a ≡ flat_map response_calls (a ∷ []) ++ [] = sym (append-nil (flat_map response_calls (a ∷ [])) ∙ append-nil (response_calls a)) in
    let attempts : answer_attempts a ≡ flat_map answer_attempts (a ∷ []) ++ [] = sym (append-nil (flat_map answer_attempts (a ∷ [])) ∙ append-nil (answer_attempts a)) in
    let n : Noted now now' (ask_behind a) (a ∷ []) Resting = record {
      asks = refl;
      left = λ begun bytes. refl;
      noted = notes ∙ ap (λ (l : List CallRecord). now.lane.calls ++ l) calls;
      keeps = keeps;
      begins = subst (λ (l : List Attempt). BeginsCalls now.moments now'.moments now.begins now'.begins l) attempts begins;
      sees = sees;
    } in
    goes_body (Ok session_step.Answered) go b n (subst (λ (x : List ℕ). w ≡ record w { unread = b.rest; output = v.output ++ x; begun = true; ended = None }) (sym (one_packet a)) shows)
    (batch_one a short) tt (record { rests = refl; closed = go.is_open.closed }, one_longer t.answers a)

-- what answers a body with no call
local_at : (asked : Ask) (text : List ℕ) → LocalPacket asked text → (a : Response) × (ask_behind a ≡ asked) × (packet_for a ≡ text) × (answer_attempts a ≡ []) × (response_calls a ≡ [])
local_at ask.Version text h = (Version, refl, sym h, refl, refl)
local_at (ask.Local id reply) text h = (Locally id reply, refl, sym h, refl, refl)
local_at (ask.Call id request) text h = absurd h
local_at (ask.End cause) text h = absurd h

-- the body that a packet has
abbrev body_at : {start now : LaneScene} {v : SessionView} {t : SessionState} {asked : Ask} {body rest : List ℕ} → MayGo start now v t → Begins v.unread body rest → AsksFor v.begun body asked → Body t asked
body_at {asked = asked} {body = body} {rest = rest} go begins asks =
    let s = go.told.stands go.is_open.rests in
    record { body = body; rest = rest; whole = sym s.unread ∙ begins.whole; is_body = begins.is_body; asks = subst (λ (x : Bool). AsksFor x body asked) s.begun asks }

pub goes_local : {start now : LaneScene} {v w : SessionView} {t : SessionState} → MayGo start now v t → NextGives v next.Local w → length w.output ≤ length v.output + longest_packet → Goes start standing.Joined w now (Ok session_step.Answered) t
goes_local {now = now} {v = v} {w = w} go gives little =
    let g = gives.1 in
    let a = local_at g.asked g.text g.local_packet in
    let b = body_at go g.begins (subst (λ (x : Ask). AsksFor v.begun g.body x) (sym a.1) g.asks) in
    let out : w ≡ record { unread = g.rest; output = v.output ++ packet_for a.0; begun = true; waiting = None; ended = None } =
    g.now ∙ ap (λ (x : List ℕ). record { unread = g.rest; output = v.output ++ x; begun = true; waiting = None; ended = None }) (sym a.2) in
    goes_answered a.0 go b (shown w g.rest (v.output ++ packet_for a.0) None out) (sym (append-nil now.lane.calls) ∙ ap (λ (l : List CallRecord). now.lane.calls ++ l) (sym a.4)) refl
    (subst (λ (l : List Attempt). BeginsCalls now.moments now.moments now.begins now.begins l) (sym a.3) (begins_none now.moments now.begins))
    (sees_same refl refl)
    (omega (arith, little, ap (λ (x : SessionView). length x.output) out, length-append v.output (packet_for a.0)))

-- a packet's call was made, or refused
pub goes_called : {start now now' : LaneScene} {v m w : SessionView} {request : Request} {t : SessionState} → MayGo start now v t → NextGives v (next.Call request) m → MakesCall request (BeginsCalls now.moments now'.moments now.begins now'.begins) (talk now.lane m) (talk now'.lane w) → SeesOn now.seen now.lane now'.seen now'.lane
    → Goes start standing.Joined w now' (Ok session_step.Answered) t
goes_called {now = now} {now' = now'} {v = v} {w = w} {request = request} go gives made sees =
    let g = gives.1 in
    let a = subst (λ (x : SessionView). MakesCall request (BeginsCalls now.moments now'.moments now.begins now'.begins) (talk now.lane x) (talk now'.lane w)) g.now made in
    let b = body_at go g.begins (subst (λ (x : Ask). AsksFor v.begun g.body x) (sym a.1) g.asks) in
    goes_answered a.0 go b (shown w g.rest (v.output ++ packet_for a.0) None a.2) (ap (λ (x : SessionLaneView). x.calls) a.3) (ap (λ (x : SessionLaneView). x.keeps) a.3) a.4 sees a.5

pub called_ready : (Asked : List Attempt → Type 0) (d d' : SessionLaneView) (v m w : SessionView) (request : Request) → IsResting d.place → NextGives v (next.Call request) m → MakesCall request Asked (talk d m) (talk d' w) → IsResting d'.place × (w.waiting ≡ None)
called_ready Asked d d' v m w request rests gives made =
    let a = subst (λ (x : SessionView). MakesCall request Asked (talk d x) (talk d' w)) gives.1.now made in
    (ap (λ (x : SessionLaneView). x.place) a.3 ∙ rests, ap (λ (x : SessionView). x.waiting) a.2)

-- ---- a packet's call has no reply

-- how many moves its phase tells is of no account
goes_pended : {start now now' : LaneScene} {at : Standing} {v m w : SessionView} {request : Request} {t : SessionState} {f : Phase} (g : ServeFault) → MayGo start now v t → (gives : NextGives v (next.Call request) m) → w ≡ m → Noted now now' (ask.Call gives.1.id request) [] f
    → ((t' : SessionState) → t'.phase ≡ f → LeavesCall at now'.lane t') → Goes start at w now' (Err g) t
goes_pended {v = v} {w = w} {t = t} {f = f} g go gives same n counts =
    let x = gives.1 in
    let b = body_at go x.begins x.asks in
    let out : v.output ≡ v.output ++ transcript [] = sym (ap (λ (l : List ℕ). v.output ++ l) none_written ∙ append-nil v.output) in
    let is : w ≡ record { unread = x.rest; output = v.output ++ transcript []; begun = true; waiting = Some x.id; ended = None } =
    same ∙ x.now ∙ ap (λ (l : List ℕ). record { unread = x.rest; output = l; begun = true; waiting = Some x.id; ended = None }) out in
    goes_body (Err g) go b n (shown w x.rest (v.output ++ transcript []) (Some x.id) is) batch_none (counts (after_body t x.body x.rest [] f) refl) tt

pub goes_stopped : {start now now' : LaneScene} {v m w : SessionView} {request : Request} {t : SessionState} (why : Stop) → MayGo start now v t → NextGives v (next.Call request) m → w ≡ m → FailsCall m.waiting request why (BeginsCalls now.moments now'.moments now.begins now'.begins) now.lane now'.lane → SeesOn now.seen now.lane now'.seen now'.lane
    → Goes start (standing_after why) w now' (Err (stop_fault why)) t
goes_stopped {request = request} stop.OutOfMemory go gives same fails sees =
    let is = fails.1.1 in
    goes_pended {f = Decided gives.1.id fails.0 request fails.1.0} (stop_fault stop.OutOfMemory) go gives same
    (record { asks = refl; left = λ begun bytes. refl; noted = ap (λ (x : SessionLaneView). x.calls) is; keeps = ap (λ (x : SessionLaneView). x.keeps) is; begins = fails.2; sees = sees }) (λ t' phase. tt)
goes_stopped {now = now} {now' = now'} {request = request} stop.UnderWay go gives same fails sees =
    let is = fails.1.1 in
    let in_call : IsInCall now'.lane.place (UnderWay gives.1.id fails.0 fails.1.0 request 0) =
    record { id = gives.1.id; number = fails.0; moment = fails.1.0; request = request; moves = 0; placed = ap (λ (x : SessionLaneView). x.place) is; waits = refl } in
    goes_pended {f = UnderWay gives.1.id fails.0 fails.1.0 request 0} (stop_fault stop.UnderWay) go gives same
    (record { asks = refl; left = λ begun bytes. refl; noted = ap (λ (x : SessionLaneView). x.calls) is ∙ sym (append-nil now.lane.calls); keeps = ap (λ (x : SessionLaneView). x.keeps) is; begins = fails.2; sees = sees })
    (λ t' phase. subst (λ (f : Phase). IsInCall now'.lane.place f) (sym phase) in_call)

-- ---- a host goes on only where it has joined

pub joined : (at : Standing) → standing_fault at ≡ None → at ≡ standing.Joined
joined standing.Joined e = refl
joined at e = let no : standing_fault at ≡ None = e in absurd (cc)

pub may_go : {start now : LaneScene} {at : Standing} {v : SessionView} {t : SessionState} → standing_fault at ≡ None → IsToldAt start at v now t → IsOpen t → IsRead t → HasSent t → MayGo start now v t
may_go {start = start} {now = now} {at = at} {v = v} {t = t} e h is_open read sent = record { told = subst (λ (s : Standing). IsToldAt start s v now t) (joined at e) h; is_open = is_open; read = read; sent = sent }

-- a host stands as it did, and its lane is where it was
pub goes_still : {start : LaneScene} {at at' : Standing} {w w' : SessionView} {d d' : SessionLaneView} {b b' : Option (List Begin)} {tl : Option (List ℕ)} {s s' : List Record} (r : Result SessionStep ServeFault) {r' : Result SessionStep ServeFault} {t : SessionState}
    → at' ≡ at → w' ≡ w → d' ≡ d → b' ≡ b → s' ≡ s → r' ≡ r → Goes start at w (lane_scene d b tl s) r t → Goes start at' w' (lane_scene d' b' tl s') r' t
goes_still {start = start} {at = at} {w = w} {w' = w'} {d = d} {d' = d'} {b = b} {b' = b'} {tl = tl} {s = s} {s' = s'} r {r' = r'} {t = t} p q e f z g h =
    subst (λ (x : Standing). Goes start x w' (lane_scene d' b' tl s') r' t) (sym p) (subst (λ (x : SessionView). Goes start at x (lane_scene d' b' tl s') r' t) (sym q)
    (subst (λ (x : SessionLaneView). Goes start at w (lane_scene x b' tl s') r' t) (sym e) (subst (λ (x : Option (List Begin)). Goes start at w (lane_scene d x tl s') r' t) (sym f)
    (subst (λ (x : List Record). Goes start at w (lane_scene d b tl x) r' t) (sym z)
    (subst (λ (x : Result SessionStep ServeFault). Goes start at w (lane_scene d b tl s) x t) (sym g) h)))))
