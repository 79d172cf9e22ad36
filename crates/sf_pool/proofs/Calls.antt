-- One call of a session, made by its lane.
use Rattle.std.proofs.Common.{◌≡◌, ◌≢◌, ◌≤◌, ◌+◌, ℕ, true, false, List, [], ◌∷◌, ◌++◌, length, Option, Some, None, Result, Ok, Err, refl, ap, sym, ◌∙◌, subst, append-nil, length-append, lt_of_not-le, arith}
use Rattle.std.specs.Prelude.{IfSome, OnOk, IsOk}
use Rattle.std.specs.Result.{is_err}
use Rattle.std.specs.Io.KnownBytes.{Appends}
use Rattle.sf_field.specs.Fields.{packet}
use Rattle.sf_reply.specs.declared.reply.Reply.{Reply}
use Rattle.sf_reply.specs.Replies.{reply_body}
use Rattle.sf_call.specs.declared.request.Request.{Request}
use Rattle.sf_call.specs.Answers.{AnswerView}
use Rattle.sf_call.specs.declared.fault.BeginFault.{BeginFault}
use Rattle.sf_call.specs.ReplyKinds.{longest_packet}
use Rattle.sf_core.specs.Cores.LaneState.{Busy}
use Rattle.sf_session.specs.declared.asking.Ask.TheVariants as ask
use Rattle.sf_session.specs.declared.session.SessionFault.{SessionFault}
use Rattle.sf_session.specs.Sessions.{SessionView, refusal_of, reply_room}
use Rattle.sf_session.proofs.Laws.{refusal_short}
use Rattle.sf_session.specs.Responses.{Response, ByCall, Refused, ask_behind, packet_for}
use Rattle.sf_session.specs.SessionStates.{HasShortPacket}
use Rattle.sf_audit.specs.Audits.{CallRecord}
use Rattle.sf_noted.specs.Pages.{begun_call}
use Rattle.sf_pool.specs.declared.session_lane.Begin.{Begin}
use Rattle.sf_pool.specs.SessionLanes.{SessionLaneState, Joined, IsResting, IsLastAnswer, SessionLaneView, Notes}
use Rattle.sf_pool.specs.Scenes.{response_calls, Attempt, attempt, answer_attempts, BeginsCalls}
use Rattle.sf_pool.specs.declared.calling.Stop.TheVariants as stop
use Rattle.sf_pool.specs.LaneHosts.{MakesCall, talk, after_calls, IsAnsweredAt, IsLong, FailsCall}

abbrev pub record_of_call : ℕ → Request → Reply → CallRecord
record_of_call number request reply = record { number = number; request = request; reply = reply }

-- ---- the last call

last_from : CallRecord → List CallRecord → CallRecord
last_from d [] = d
last_from d (x ∷ xs) = last_from x xs

last_pushed : (xs : List CallRecord) (d x : CallRecord) → last_from d (xs ++ x ∷ []) ≡ x
unfolding last_from
last_pushed [] d x = refl
last_pushed (y ∷ ys) d x = last_pushed ys y x

pub same_last : (xs ys : List CallRecord) (x y : CallRecord) → xs ++ x ∷ [] ≡ ys ++ y ∷ [] → x ≡ y
same_last xs ys x y e = sym (last_pushed xs x x) ∙ ap (last_from x) e ∙ last_pushed ys x y

pub some_pushed : (xs : List CallRecord) (x : CallRecord) → xs ++ x ∷ [] ≢ []
some_pushed [] x e = cc
some_pushed (y ∷ ys) x e = cc

-- ---- a call begins, and is answered

-- From the first of these views of a lane to the second a call began, and from there to the third it was answered.
pub record IsMade (d d1 d2 : SessionLaneView) (request : Request) (number moment : ℕ) : Type 0 where
  pub rests : IsResting d.place
  pub begun : d1 ≡ record d { place = Joined (Busy (begun_call number moment request)) }
  pub answered : IsAnsweredAt d1 d2

-- so it is noted behind the calls before it
pub noted_so : {d d1 d2 : SessionLaneView} {request : Request} {number moment : ℕ} → IsMade d d1 d2 request number moment → (reply : Reply) × (d2 ≡ after_calls d (record_of_call number request reply ∷ []) d2.steps)
noted_so {d = d} {d2 = d2} {request = request} {number = number} made =
    let h = subst (λ (x : SessionLaneView). IsAnsweredAt x d2) made.begun made.answered in
    (h.0, h.1 ∙ ap (λ (p : SessionLaneState). record d { place = p; calls = d.calls ++ record_of_call number request h.0 ∷ []; steps = d2.steps }) (sym made.rests))

pub some_told : {d d1 d2 : SessionLaneView} {request : Request} {number moment : ℕ} → IsMade d d1 d2 request number moment → d2.calls ≢ []
some_told {d = d} {request = request} {number = number} made e =
    let h = noted_so made in
    some_pushed d.calls (record_of_call number request h.0) (sym (ap (λ (x : SessionLaneView). x.calls) h.1) ∙ e)

last_at : (before after : List CallRecord) (d : CallRecord) (n : ℕ) (reply : Reply) → after ≡ before ++ d ∷ [] → IsLastAnswer after n reply → reply ≡ d.reply
last_at before after d n reply noted last = ap (λ (c : CallRecord). c.reply) (same_last last.0 before (record_of_call n last.1 reply) d (sym last.2 ∙ noted))

-- ---- what is told of it

-- a lane answered a call so, whichever packet asked for it
record Answers (request : Request) (Asked : List Attempt → Type 0) (d d' : SessionLaneView) (answer : ℕ → Response) : Type 0 where
  pub asks : (id : ℕ) → ask_behind (answer id) ≡ ask.Call id request
  pub noted : (id : ℕ) → d' ≡ after_calls d (response_calls (answer id)) d'.steps
  pub asked : (id : ℕ) → Asked (answer_attempts (answer id))

made_by : {request : Request} {Asked : List Attempt → Type 0} {d d' : SessionLaneView} (v w : SessionView) (waiting : Option ℕ) {answer : ℕ → Response} → Answers request Asked d d' answer
    → ((id : ℕ) → w.output ≡ v.output ++ packet_for (answer id) → HasShortPacket (answer id)) → IfSome waiting (λ id. w ≡ record v { output = v.output ++ packet_for (answer id); waiting = None })
    → IfSome waiting (λ id. (a : Response) × (ask_behind a ≡ ask.Call id request) × (w ≡ record v { output = v.output ++ packet_for a; waiting = None })
    × (d' ≡ after_calls d (response_calls a) d'.steps) × Asked (answer_attempts a) × HasShortPacket a)
made_by v w None h short written = tt
made_by v w (Some id) {answer = answer} h short written = (answer id, h.asks id, written, h.noted id, h.asked id, short id (ap (λ (x : SessionView). x.output) written))

pub call_made : {d d1 d2 : SessionLaneView} {request : Request} {number moment : ℕ} (Asked : List Attempt → Type 0) (answer : AnswerView) (v w : SessionView) → IsMade d d1 d2 request number moment → IsLastAnswer d2.calls answer.number answer.reply
    → IfSome v.waiting (λ id. w ≡ record v { output = v.output ++ packet (reply_body id answer.reply); waiting = None }) → length w.output ≤ length v.output + longest_packet → Asked (attempt request (Ok number) ∷ []) → MakesCall request Asked (talk d v) (talk d2 w)
call_made {d = d} {d2 = d2} {request = request} {number = number} Asked answer v w made last written little asked =
    let h = noted_so made in
    let answers : Answers request Asked d d2 (λ id. ByCall id number request h.0) = record { asks = λ id. refl; noted = λ id. h.1; asked = λ id. asked } in
    made_by v w v.waiting answers
    (λ id e. omega (arith, little, ap (λ (b : List ℕ). length b) e, length-append v.output (packet_for (ByCall id number request h.0))))
    (subst (λ (r : Reply). IfSome v.waiting (λ id. w ≡ record v { output = v.output ++ packet (reply_body id r); waiting = None })) (last_at d.calls d2.calls (record_of_call number request h.0) answer.number answer.reply (ap (λ (x : SessionLaneView). x.calls) h.1) last) written)

pub call_refused : (request : Request) (Asked : List Attempt → Type 0) {d d1 : SessionLaneView} (fault : BeginFault) (v w : SessionView) → d1 ≡ d → IfSome v.waiting (λ id. w ≡ record v { output = v.output ++ packet (reply_body id (refusal_of fault)); waiting = None })
    → Asked (attempt request (Err fault) ∷ []) → MakesCall request Asked (talk d v) (talk d1 w)
call_refused request Asked {d = d} fault v w same written asked =
    let answers : Answers request Asked d d (λ id. Refused id request fault) =
    record { asks = λ id. refl; noted = λ id. ap (λ (c : List CallRecord). record d { calls = c }) (sym (append-nil d.calls)); asked = λ id. asked } in
    subst (λ (x : SessionLaneView). MakesCall request Asked (talk d v) (talk x w)) (sym same) (made_by v w v.waiting answers (λ id e. refusal_short id fault) written)

-- a reply that found no room is no short one
long : (waiting : Option ℕ) (reply : Reply) (r : Result (Unit {0}) SessionFault) → IfSome waiting (λ id. length (packet (reply_body id reply)) ≤ reply_room → IsOk r) → is_err r ≡ true → IsLong waiting reply
long None reply r enough err = tt
long (Some id) reply (Ok x) enough err = absurd (cc)
long (Some id) reply (Err f) enough err = lt_of_not-le (λ (le : length (packet (reply_body id reply)) ≤ reply_room). let no : false ≡ true = enough le in (cc))

pub call_unanswered : {d d1 d2 : SessionLaneView} {request : Request} {number moment : ℕ} (waiting : Option ℕ) (Asked : List Attempt → Type 0) (answer : AnswerView) (r : Result (Unit {0}) SessionFault) → IsMade d d1 d2 request number moment → IsLastAnswer d2.calls answer.number answer.reply
    → IfSome waiting (λ id. length (packet (reply_body id answer.reply)) ≤ reply_room → IsOk r) → is_err r ≡ true → Asked (attempt request (Ok number) ∷ []) → FailsCall waiting request stop.OutOfMemory Asked d d2
call_unanswered {d = d} {d2 = d2} {request = request} {number = number} waiting Asked answer r made last enough err asked =
    let h = noted_so made in
    let same = last_at d.calls d2.calls (record_of_call number request h.0) answer.number answer.reply (ap (λ (x : SessionLaneView). x.calls) h.1) last in
    (number, (h.0, h.1, long waiting h.0 r (subst (λ (x : Reply). IfSome waiting (λ id. length (packet (reply_body id x)) ≤ reply_room → IsOk r)) same enough) err), asked)

-- a lane was asked to begin a call at the moment that was told for it, and no other since
pub one_begin : (tl tl' : Option (List ℕ)) (b : Option (List Begin)) {b1 b2 : Option (List Begin)} (request : Request) (moment : ℕ) (outcome : Result ℕ BeginFault)
    → Appends tl tl' (moment ∷ []) → Notes b b1 (record { request = request; moment = moment; outcome = outcome } ∷ []) → b2 ≡ b1 → BeginsCalls tl tl' b b2 (attempt request outcome ∷ [])
one_begin tl tl' b request moment outcome told noted same =
    let one : List Begin = record { request = request; moment = moment; outcome = outcome } ∷ [] in
    (one, subst (λ (x : Option (List Begin)). Notes b x one) (sym same) noted, told, refl)

-- what holds of an answer that is no fault
pub on_ok_at : {T E : Type 0} (r : Result T E) (P : Type 0) → is_err r ≡ false → OnOk r P → P
on_ok_at (Ok x) P e p = p
on_ok_at (Err f) P e p = absurd (cc)
