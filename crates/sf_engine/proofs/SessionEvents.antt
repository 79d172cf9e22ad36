-- Each event of one session: the session agrees with its part of the log after it.
use Rattle.sf_engine.proofs.Short.{bound_is, most_is}
use Rattle.std.proofs.Common.{◌≡◌, ◌≢◌, ℕ, zero, suc, ◌+◌, ◌-◌, ◌<◌, ◌≤◌, ◌⊎◌, List, [], ◌∷◌, ◌++◌, Option, Some, None, IfSome, Bool, true, false, slice_get, length, take, drop, map, refl, ap, sym, ◌∙◌, subst, arith, inl, inr, append-nil, append_assoc, length-append, length-take, ◌||◌}
use Rattle.std.specs.Prelude.{Vec, not}
use Rattle.std.specs.Global.{Global}
use Rattle.std.specs.List.{AllByRecursion, flat_map}
use Rattle.std.proofs.lemmas.List.{take-append-drop, flat_map_more}
use Rattle.std.proofs.lemmas.Grind.{flat_map-append}
use Rattle.std.proofs.lemmas.Option.{slice_get_within}
use Rattle.sf_field.specs.Fields.{packet}
use Rattle.sf_wire.specs.declared.cutting.Cut.TheVariants as cut
use Rattle.sf_wire.specs.Packets.{IsBody, IsCut}
use Rattle.sf_reply.specs.Replies.{reply_body}
use Rattle.sf_reply.specs.declared.reply.Reply.{Reply}
use Rattle.sf_call.specs.declared.call.Call.{Call}
use Rattle.sf_call.specs.declared.call.Stage.{Stage}
use Rattle.sf_call.specs.declared.call.Stage.TheVariants as stage
use Rattle.sf_call.specs.declared.request.Request.{Request}
use Rattle.sf_call.specs.declared.record.Record.{Record}
use Rattle.sf_call.specs.declared.record.Record.TheVariants.{Did, Left}
use Rattle.sf_call.specs.declared.fault.BeginFault.{BeginFault}
use Rattle.sf_call.specs.declared.fault.BeginFault.TheVariants as begin
use Rattle.sf_call.specs.Histories.{IsAmong, IsLegal, IsNewNumber, replay}
use Rattle.sf_call.specs.Routes.{route_of}
use Rattle.sf_walk.specs.Routes.{IsPosition}
use Rattle.sf_engine.specs.Deciding.{WalkHasStopped, AreSure}
use Rattle.sf_call.specs.Answers.{AnswerView}
use Rattle.sf_session.specs.declared.local_reply.LocalReply.{LocalReply}
use Rattle.sf_session.specs.declared.asking.Ask.{Ask}
use Rattle.sf_session.specs.declared.asking.Ask.TheVariants as ask
use Rattle.sf_session.specs.declared.cause.Cause.{Cause}
use Rattle.sf_session.specs.declared.cause.Cause.TheVariants.{Closed}
use Rattle.sf_session.specs.declared.session.Next.TheVariants as next
use Rattle.sf_session.specs.Asking.{AsksFor}
use Rattle.sf_session.specs.Sessions.{SessionView, Begins, EndsBy, LocalPacket, NextGives, refusal_of}
use Rattle.sf_session.specs.Responses.{Response, Version, Locally, ByCall, Refused, ask_behind, packet_for, transcript, has_begun, AreAsked, RepliedCall, recorded_by, recorded_in, calls_answered, if_so, answered_in, Due, NothingDue, Unrecorded, Recorded, asked_due, recorded_due, most_calls}
use Rattle.sf_session.proofs.Laws.{all_push, begun_is, begun_push, asked_push, map_push}
use Rattle.sf_core.specs.Lanes.{LaneView, at_rest}
use Rattle.sf_core.specs.Cores.LaneState.{NoLane, Idle, Busy}
use Rattle.sf_core.specs.Cores.{CoreView, LaneState, lane_state}
use Rattle.sf_core.specs.Events.{SessionLeaves, RefusesCall, IsOfOther, Fetches, Decides, IsHelped, IsFinished}
use Rattle.sf_core.specs.Histories.{IsHistory}
use Rattle.sf_core.specs.Progress.{is_write, IsCopying, waiting_reply, MayDecide, left_of, bound_of, new_call, did, SameCall}
use Rattle.sf_engine.specs.declared.event.Happened.TheVariants as happened
use Rattle.sf_engine.specs.declared.hosted.HostedSession.{HostedSession}
use Rattle.sf_engine.specs.declared.hosted.HostedState.{HostedState}
use Rattle.sf_engine.specs.declared.hosted.HostedState.TheVariants as state
use Rattle.sf_engine.specs.Views.{EngineView}
use Rattle.sf_engine.specs.Turns.{Stand, stand, FeedGives, SentGives, WritesAtOnce, ReadGives, WritesAnswer, RestsOrLeaves, ClosesAt, StaysAs, before, after_turn, StepGives}
use Rattle.sf_engine.specs.HasLog.{replied, IsUnfinished, HasMoved, IsHeldUp, IsWhy, blocked_in}
use Rattle.sf_engine.specs.Promise.{Entry, BytesFed, CallBegun, CallMoved, CallBlocked, CallDecided, ReplyWritten, SessionIdle, SessionEnded, SessionClosed, BytesSent, linearization, opened_in, begun_in, SessionLog, with_own, of_session, IsKnown, IsHere, IsUnanswered, SessionPhase, WithoutCall, Running, Replying, HasLeft, phase_at, phase_before, phase, IsInPhase, IsPending, IsDueTo, added_by, MayWrite, IsDueAfter, IsAnswered, IsUnsent, HasFewMoves, most_steps}
use Rattle.sf_engine.specs.Steady.{IsOfOthersCall, CarriesCallOut}
use Rattle.sf_engine.specs.HasLog.{AtRest, IsGoing, HasAnswer, IsAtPlace, IsOpenOrGone, Seat, seat, Hosts, HasLog}
use Rattle.std.proofs.lemmas.Bool.{cases_eq, cases_lt, eq-eqb, ne_eqb}
use Rattle.sf_engine.proofs.Deciding.{moved_on, stops, step_sure}
use Rattle.sf_engine.proofs.MovesBy.{MovesBy}
use Rattle.sf_engine.proofs.Appending.{changed_at, goes_on, others_same, IsSame, Stays, stays_on, Leaves, leaves_on, held_on, keeps_others}
use Rattle.sf_engine.proofs.Base.{CalledBy, hosted_session, output_push, Has, has_recorded, has_either, has_of, one_only, answered_push, no_call, all_last, number_is_new, legal_front, get_within, among_last, not_on_way, has_copied, write_stops, nothing_rises, or_true, or_false}

-- its bytes and its replies stay
abbrev answered_as : (t : SessionLog) (r : List RepliedCall) (n : ℕ) (closed left : Bool) (l : Option Entry) → (a : IsAnswered t r) → IsDueAfter l closed a.bodies a.rest a.due
    → (closed ≡ true → a.due ≡ NothingDue → left ≡ true) → IsAnswered (record t { sent = n; closed = closed; left = left; last = l }) r
answered_as t r n closed left l a after leaves = record {
  bodies = a.bodies;
  rest = a.rest;
  due = a.due;
  are_bodies = a.are_bodies;
  fed = a.fed;
  asked = a.asked;
  calls = a.calls;
  begun = a.begun;
  after_last = after;
  closed = leaves;
  few = a.few;
}

-- ---- feeding and sending

fed_hosts : (t : SessionLog) (r : List RepliedCall) (slot : LaneState Call) (s : ℕ) (p : HostedSession) (bytes : Vec ℕ Global) → Hosts t r slot s p → p.session.ended ≡ None
    → Hosts (with_own t (BytesFed s bytes)) r slot s (record p { session = record p.session { unread = p.session.unread ++ bytes.items } })
fed_hosts t r slot s p bytes h unended =
    let a = h.answered in
    let was = subst (λ (o : Option Cause). IsOpenOrGone o t.left t.closed a.bodies a.rest p.session.unread) unended h.open_or_gone in record {
      answered = record {
        bodies = a.bodies;
        rest = a.rest ++ bytes.items;
        due = a.due;
        are_bodies = a.are_bodies;
        fed = ap (λ (b : List ℕ). b ++ bytes.items) a.fed ∙ append_assoc (flat_map packet a.bodies) a.rest bytes.items;
        asked = a.asked;
        calls = a.calls;
        begun = a.begun;
        after_last = tt;
        closed = a.closed;
        few = a.few;
      };
      output = h.output;
      begun = h.begun;
      open_or_gone = subst (λ (o : Option Cause). IsOpenOrGone o (with_own t (BytesFed s bytes)).left (with_own t (BytesFed s bytes)).closed a.bodies (a.rest ++ bytes.items) (p.session.unread ++ bytes.items)) (sym unended)
          (was.0, ap (λ (b : List ℕ). b ++ bytes.items) was.1);
      closed = h.closed;
      at = h.at;
    }

sent_hosts : (t : SessionLog) (r : List RepliedCall) (slot : LaneState Call) (s n : ℕ) (p : HostedSession) → Hosts t r slot s p → n ≤ length p.session.output
    → Hosts (with_own t (BytesSent s n)) r slot s (record p { session = record p.session { output = drop n p.session.output } })
sent_hosts t r slot s n p h within =
    let o = h.output in
    let out = p.session.output in record {
      answered = answered_as t r (t.sent + n) t.closed t.left (Some (BytesSent s n)) h.answered tt h.answered.closed;
      output = record {
        sent = o.sent ++ take n out;
        count_is = let a = length-append o.sent (take n out) in let b = length-take n out in let c = o.count_is in omega (arith, a, b, c, within);
        packets = o.packets ∙ ap (λ (b : List ℕ). o.sent ++ b) (sym (take-append-drop n out)) ∙ sym (append_assoc o.sent (take n out) (drop n out));
      };
      begun = h.begun;
      open_or_gone = h.open_or_gone;
      closed = h.closed;
      at = h.at;
    }

-- ---- a body that needs no call

-- a session read a body, and answered it
record AnswersOne (x y : SessionView) (May : Response → Type 0) : Type 0 where
  body : List ℕ
  rest : List ℕ
  answer : Response
  begins : Begins x.unread body rest
  asks : AsksFor x.begun body (ask_behind answer)
  none : calls_answered answer ≡ []
  may : May answer
  now : y ≡ record { unread = rest; output = x.output ++ packet_for answer; begun = true; waiting = None; ended = None }

local_answer : (v : SessionView) (may : Response → Type 0) (a : Ask) (text : List ℕ) → LocalPacket a text → ((id : ℕ) (reply : LocalReply) → may (Locally id reply)) → may Version
    → (answer : Response) × (ask_behind answer ≡ a) × (packet_for answer ≡ text) × (calls_answered answer ≡ []) × may answer
local_answer v may ask.Version text h locally version = (Version, refl, sym h, refl, version)
local_answer v may (ask.Local id reply) text h locally version = (Locally id reply, refl, sym h, refl, locally id reply)
local_answer v may _ text h locally version = absurd h

-- why a call could not begin
may_refuse : (log : List Entry) (s : ℕ) (v : CoreView) (id : ℕ) (request : Request) (fault : BeginFault) → v.drawn ≡ begun_in log → RefusesCall v fault → MayWrite log s (Refused id request fault)
may_refuse log s v id request begin.OutOfMemory drawn h = subst (λ (n : ℕ). n < most_calls) drawn h
may_refuse log s v id request begin.NumbersSpent drawn h = sym drawn ∙ h

answers_one : (x : SessionView) (lane : LaneView) (v : CoreView) (y : SessionView) (may : Response → Type 0) → WritesAtOnce (stand v x (state.Resting lane)) y
    → ((id : ℕ) (reply : LocalReply) → may (Locally id reply)) → may Version → ((id : ℕ) (request : Request) (fault : BeginFault) → RefusesCall v fault → may (Refused id request fault)) → AnswersOne x y may
answers_one x lane v y may (inl g) locally version refuses =
    let o = g.1 in
    let a = local_answer x may o.asked o.text o.local_packet locally version in record {
      body = o.body;
      rest = o.rest;
      answer = a.0;
      begins = o.begins;
      asks = subst (λ (z : Ask). AsksFor x.begun o.body z) (sym a.1) o.asks;
      none = a.3;
      may = a.4;
      now = o.now ∙ ap (λ (b : List ℕ). record { unread = o.rest; output = x.output ++ b; begun = true; waiting = None; ended = None }) (sym a.2);
    }
answers_one x lane v y may (inr g) locally version refuses =
    let mid = g.1 in
    let o = g.3.1 in
    let wrote = subst (λ (z : Option ℕ). IfSome z (λ id. y ≡ record mid { output = mid.output ++ packet (reply_body id (refusal_of g.2)); waiting = None })) (ap (λ (z : SessionView). z.waiting) o.now) g.5 in record {
      body = o.body;
      rest = o.rest;
      answer = Refused o.id g.0 g.2;
      begins = o.begins;
      asks = o.asks;
      none = refl;
      may = refuses o.id g.0 g.2 g.4;
      now = wrote ∙ ap (λ (z : SessionView). record { unread = z.unread; output = z.output ++ packet (reply_body o.id (refusal_of g.2)); begun = z.begun; waiting = None; ended = z.ended }) o.now;
    }

-- one more body was read
fed_push : (fed : List ℕ) (bodies : List (List ℕ)) (left unread body rest : List ℕ) → fed ≡ flat_map packet bodies ++ left → left ≡ unread → unread ≡ packet body ++ rest → fed ≡ flat_map packet (bodies ++ body ∷ []) ++ rest
fed_push fed bodies left unread body rest is same whole =
    is ∙ ap (λ (b : List ℕ). flat_map packet bodies ++ b) (same ∙ whole) ∙ sym (append_assoc (flat_map packet bodies) (packet body) rest) ∙ ap (λ (b : List ℕ). b ++ rest) (flat_map_more packet [] bodies body)

-- if no reply is pending, each body has its answer
all_asked : (bodies : List (List ℕ)) (wrote : List Response) (due : Due) → due ≡ NothingDue → AreAsked false bodies (map ask_behind wrote ++ asked_due due) → AreAsked false bodies (map ask_behind wrote)
all_asked bodies wrote due none asked =
    subst (λ (xs : List Ask). AreAsked false bodies xs) (ap (λ (d : Due). map ask_behind wrote ++ asked_due d) none ∙ append-nil (map ask_behind wrote)) asked

wrote_hosts : (t : SessionLog) (r : List RepliedCall) (slot : LaneState Call) (s m : ℕ) (p : HostedSession) (lane : LaneView) (body rest : List ℕ) (answer : Response) → (h : Hosts t r slot s p)
    → IsAtPlace (state.Resting lane) p.closed (seat slot s p.session h.answered.due t) → t.closed ≡ false → (t.left ≡ false) × (h.answered.rest ≡ p.session.unread)
    → Begins p.session.unread body rest → AsksFor p.session.begun body (ask_behind answer) → calls_answered answer ≡ []
    → Hosts (with_own t (ReplyWritten s m answer false)) r slot s
    (hosted_session (record { unread = rest; output = p.session.output ++ packet_for answer; begun = true; waiting = None; ended = None }) (state.Resting lane) p.closed)
wrote_hosts t r slot s m p lane body rest answer h k unclosed is_open begins asks none =
    let a = h.answered in
    let nothing = k.0.due in
    let same : answered_in (t.wrote ++ answer ∷ []) ≡ answered_in t.wrote = answered_push t.wrote answer ∙ ap (λ (cs : List RepliedCall). answered_in t.wrote ++ cs) none ∙ append-nil (answered_in t.wrote) in
    let asked = asked_push false a.bodies (map ask_behind t.wrote) body (ask_behind answer) (all_asked a.bodies t.wrote a.due nothing a.asked)
    (subst (λ (b : Bool). AsksFor b body (ask_behind answer)) (h.begun ∙ begun_is a.bodies) asks) in record {
      answered = record {
        bodies = a.bodies ++ body ∷ [];
        rest = rest;
        due = NothingDue;
        are_bodies = all_push IsBody a.bodies body a.are_bodies begins.is_body;
        fed = fed_push t.fed a.bodies a.rest p.session.unread body rest a.fed is_open.1 begins.whole;
        asked = subst (λ (xs : List Ask). AreAsked false (a.bodies ++ body ∷ []) xs) (sym (map_push t.wrote answer) ∙ sym (append-nil (map ask_behind (t.wrote ++ answer ∷ [])))) asked;
        calls = a.calls ∙ ap (λ (d : Due). answered_in t.wrote ++ recorded_due d) nothing ∙ ap (λ (cs : List RepliedCall). cs ++ []) (sym same);
        begun = a.begun ∙ ap (λ (d : Due). length (answered_in t.wrote) + length (asked_due d)) nothing ∙ ap (λ (cs : List RepliedCall). length cs + 0) (sym same);
        after_last = refl;
        closed = λ c n. absurd (let z : true ≡ false = sym c ∙ unclosed in cc);
        few = tt;
      };
      output = record { sent = h.output.sent; count_is = h.output.count_is; packets = output_push t.wrote h.output.sent p.session.output answer h.output.packets };
      begun = sym (begun_push a.bodies body);
      open_or_gone = (is_open.0, refl);
      closed = h.closed;
      at = (record { session = k.0.session; idle = k.0.idle; slot = k.0.slot; waiting = refl; ended = refl; due = refl }, k.1);
    }

-- ---- a call's reply is written, and a session leaves

reply_count : (begun : ℕ) (wrote : List Response) (answer : Response) (due : Due) (id : ℕ) (c : RepliedCall) → begun ≡ length (answered_in wrote) + length (asked_due due) → due ≡ Recorded id c → calls_answered answer ≡ c ∷ []
    → begun ≡ length (answered_in (wrote ++ answer ∷ [])) + 0
reply_count begun wrote answer due id c is at one =
    let more = ap (λ (cs : List RepliedCall). length cs) (answered_push wrote answer ∙ ap (λ (cs : List RepliedCall). answered_in wrote ++ cs) one) in
    let long = length-append (answered_in wrote) (c ∷ []) in
    let had = ap (λ (d : Due). length (asked_due d)) at in
    omega (arith, is, more, long, had)

-- the pending reply was written; the session leaves, or it was not closed
abbrev replied_to : (t : SessionLog) (r : List RepliedCall) (a : IsAnswered t r) (id : ℕ) (c : RepliedCall) (left : Bool) (l : Option Entry) → a.due ≡ Recorded id c → IsDueAfter l t.closed a.bodies a.rest NothingDue
    → (t.closed ≡ true → left ≡ true) → IsAnswered (record t { wrote = t.wrote ++ ByCall id c.number c.request c.reply ∷ []; left = left; last = l }) r
replied_to t r a id c left l due after leaves =
    let answer = ByCall id c.number c.request c.reply in
    let pushed = answered_push t.wrote answer in record {
      bodies = a.bodies;
      rest = a.rest;
      due = NothingDue;
      are_bodies = a.are_bodies;
      fed = a.fed;
      asked = subst (λ (xs : List Ask). AreAsked false a.bodies xs)
          (ap (λ (d : Due). map ask_behind t.wrote ++ asked_due d) due ∙ sym (map_push t.wrote answer) ∙ sym (append-nil (map ask_behind (t.wrote ++ answer ∷ [])))) a.asked;
      calls = a.calls ∙ ap (λ (d : Due). answered_in t.wrote ++ recorded_due d) due ∙ sym pushed ∙ sym (append-nil (answered_in (t.wrote ++ answer ∷ [])));
      begun = reply_count t.begun t.wrote answer a.due id c a.begun due refl;
      after_last = after;
      closed = λ c n. leaves c;
      few = tt;
    }

-- the session is closed while it has a call
later_hosts : (t : SessionLog) (r : List RepliedCall) (slot : LaneState Call) (s : ℕ) (p : HostedSession) → (h : Hosts t r slot s p) → p.session.ended ≡ None → (h.answered.due ≡ NothingDue → ⊥)
    → IsAtPlace p.place true (seat slot s p.session h.answered.due t) → Hosts (with_own t (SessionClosed s false)) r slot s (hosted_session p.session p.place true)
later_hosts t r slot s p h unended busy at =
    let open_now = subst (λ (o : Option Cause). IsOpenOrGone o t.left t.closed h.answered.bodies h.answered.rest p.session.unread) unended h.open_or_gone in record {
      answered = answered_as t r t.sent true t.left (Some (SessionClosed s false)) h.answered tt (λ c none. absurd (busy none));
      output = h.output;
      begun = h.begun;
      open_or_gone = subst (λ (o : Option Cause). IsOpenOrGone o (with_own t (SessionClosed s false)).left (with_own t (SessionClosed s false)).closed h.answered.bodies h.answered.rest p.session.unread) (sym unended) open_now;
      closed = λ l. refl;
      at = at;
    }

why_closed : (c : Cause) (closed : Bool) (bodies : List (List ℕ)) (rest : List ℕ) → IsWhy c closed bodies rest → IsWhy c true bodies rest
why_closed c closed bodies rest (inl k) = inl (k.0, refl)
why_closed c closed bodies rest (inr k) = inr k

-- the reply that is pending for a call, with a record or without one
abbrev IsDueFor : ℕ → Call → Due → Type 0
IsDueFor id c due = (due ≡ Unrecorded id c.request) ⊎ ((reply : Reply) × (due ≡ Recorded id (replied c.number c.request reply)))

pub due_asks : (id : ℕ) (c : Call) (due : Due) → IsDueFor id c due → asked_due due ≡ ask.Call id c.request ∷ []
due_asks id c due (inl is) = ap asked_due is
due_asks id c due (inr is) = ap asked_due is.1

due_one : (id : ℕ) (c : Call) (due : Due) → IsDueFor id c due → length (asked_due due) ≡ 1
due_one id c due is = ap (λ (asks : List Ask). length asks) (due_asks id c due is)

due_some : (id : ℕ) (c : Call) (due : Due) → IsDueFor id c due → due ≡ NothingDue → ⊥
due_some id c due is none = let z : ask.Call id c.request ∷ [] ≡ [] = sym (due_asks id c due is) ∙ ap asked_due none in cc

-- the same for a call with the same request and number
due_for : (id : ℕ) (c d : Call) (due : Due) → d.request ≡ c.request → d.number ≡ c.number → IsDueFor id c due → IsDueFor id d due
due_for id c d due request number (inl is) = inl (is ∙ ap (λ (q : Request). Unrecorded id q) (sym request))
due_for id c d due request number (inr is) = inr (is.0, is.1 ∙ ap (λ (q : Request). Recorded id (replied c.number q is.0)) (sym request) ∙ ap (λ (n : ℕ). Recorded id (replied n d.request is.0)) (sym number))

some_steps : (q : Request) → 0 < most_steps q
some_steps q = let is = bound_is q in omega (arith, is, most_is q)

begun_count : (begun : ℕ) (wrote : List Response) (due : Due) → begun ≡ length (answered_in wrote) + length (asked_due due) → due ≡ NothingDue → begun + 1 ≡ length (answered_in wrote) + 1
begun_count begun wrote due is none = let had = ap (λ (d : Due). length (asked_due d)) none in omega (arith, is, had)

-- a body needs a call, whose reply is pending
abbrev begun_answered : (t : SessionLog) (r : List RepliedCall) {slot : LaneState Call} {s : ℕ} (p : HostedSession) (h : Hosts t r slot s p) (m n : ℕ) (body rest : List ℕ) (id : ℕ) (request : Request) → h.answered.due ≡ NothingDue
    → t.closed ≡ false → (t.left ≡ false) × (h.answered.rest ≡ p.session.unread) → Begins p.session.unread body rest → AsksFor p.session.begun body (ask.Call id request) → IsAnswered (with_own t (CallBegun s m n)) r
begun_answered t r {s = s} p h m n body rest id request nothing unclosed is_open begins asks =
    let a = h.answered in record {
      bodies = a.bodies ++ body ∷ [];
      rest = rest;
      due = Unrecorded id request;
      are_bodies = all_push IsBody a.bodies body a.are_bodies begins.is_body;
      fed = fed_push t.fed a.bodies a.rest p.session.unread body rest a.fed is_open.1 begins.whole;
      asked = asked_push false a.bodies (map ask_behind t.wrote) body (ask.Call id request) (all_asked a.bodies t.wrote a.due nothing a.asked) (subst (λ (b : Bool). AsksFor b body (ask.Call id request)) (h.begun ∙ begun_is a.bodies) asks);
      calls = a.calls ∙ ap (λ (d : Due). answered_in t.wrote ++ recorded_due d) nothing;
      begun = begun_count t.begun t.wrote a.due a.begun nothing;
      after_last = λ (none : Unrecorded id request ≡ NothingDue). cc;
      closed = λ c none. absurd (let z : true ≡ false = sym c ∙ unclosed in cc);
      few = some_steps request;
    }

-- ---- a running call

-- a session whose call the core has is in the place for that
pub busy_at : (o : HostedState) (closed : Bool) (c : Call) (k : Seat) → k.slot ≡ Busy c → IsAtPlace o closed k → (lane : LaneView) × (o ≡ state.UnderWay lane) × IsGoing lane k
busy_at (state.UnderWay lane) closed c k busy at = (lane, refl, at)
busy_at (state.Resting lane) closed c k busy at = let z = sym busy ∙ at.0.slot in cc
busy_at _ closed c k busy at = let z = sym busy ∙ at.slot in cc

-- the call that the core has for a session is its last one, and has no reply yet
busy_hosts : (t : SessionLog) (r : List RepliedCall) (s : ℕ) (p : HostedSession) (c : Call) → Hosts t r (Busy c) s p → IsUnanswered t c.number × (t.call.moment ≡ c.moment)
busy_hosts t r s p c h =
    let k = (busy_at p.place p.closed c (seat (Busy c) s p.session h.answered.due t) refl h.at).2 in
    let own : k.call ≡ c = let z : Busy c ≡ Busy k.call = k.slot in cc in
    ((sym k.known.0 ∙ ap (λ (y : Call). y.number) own, omega (arith, h.answered.begun, due_one k.id k.call h.answered.due k.due)), sym k.known.1 ∙ ap (λ (y : Call). y.moment) own)

-- the same of an engine's session
busy_call : (e : EngineView) (log : List Entry) (h : HasLog e log) (s : ℕ) (c : Call) → lane_state e.core s ≡ Busy c → IsUnanswered (of_session s log) c.number × ((of_session s log).call.moment ≡ c.moment)
busy_call e log h zero c busy = let z = sym h.zero ∙ busy in cc
busy_call e log h (suc i) c busy = elim (cases_lt i (opened_in log)) [
  | inr ge ↦ absurd (let z : NoLane ≡ Busy c = sym (h.nobody (suc i) (omega arith) (omega (arith, ge))).slot ∙ busy in cc)
  | inl lt ↦
      let p = get_within e.hosted i (omega (arith, lt, h.count)) in
      let num : i + 1 ≡ suc i = omega arith in
      let host = subst (λ (n : ℕ). Hosts (of_session n log) (recorded_in n (linearization log)) (lane_state e.core n) n p.0) num (h.each i p.0 p.1) in
      let host' = subst (λ (z : LaneState Call). Hosts (of_session (suc i) log) (recorded_in (suc i) (linearization log)) z (suc i) p.0) busy host in
      busy_hosts (of_session (suc i) log) (recorded_in (suc i) (linearization log)) (suc i) p.0 c host'
]

-- ---- one more record

-- the pending reply has its record now
due_recorded : (l : Option Entry) (closed : Bool) (bodies : List (List ℕ)) (rest : List ℕ) (id : ℕ) (request : Request) (c : RepliedCall) → IsDueAfter l closed bodies rest (Unrecorded id request) → IsDueAfter l closed bodies rest (Recorded id c)
due_recorded (Some (CallBegun s m n)) closed bodies rest id request c h = λ (z : Recorded id c ≡ NothingDue). cc
due_recorded (Some (CallMoved s m added)) closed bodies rest id request c h = λ (z : Recorded id c ≡ NothingDue). cc
due_recorded (Some (CallBlocked s m holder)) closed bodies rest id request c h = λ (z : Recorded id c ≡ NothingDue). cc
due_recorded (Some (CallDecided s m added)) closed bodies rest id request c h = (id, c, refl)
due_recorded (Some (ReplyWritten s m answer leaves)) closed bodies rest id request c h = cc
due_recorded (Some (SessionIdle s m)) closed bodies rest id request c h = let z = h.0 in cc
due_recorded (Some (SessionEnded s m why leaves)) closed bodies rest id request c h = let z = h.0 in cc
due_recorded _ closed bodies rest id request c h = tt

-- a record of the call that a session has in the core
abbrev recorded_now : (t : SessionLog) (r : List RepliedCall) (a : IsAnswered t r) (id : ℕ) (c : Call) (given : Reply) → a.due ≡ Unrecorded id c.request → IsAnswered t (r ++ replied c.number c.request given ∷ [])
recorded_now t r a id c given due = record {
  bodies = a.bodies;
  rest = a.rest;
  due = Recorded id (replied c.number c.request given);
  are_bodies = a.are_bodies;
  fed = a.fed;
  asked = subst (λ (d : Due). AreAsked false a.bodies (map ask_behind t.wrote ++ asked_due d)) due a.asked;
  calls = ap (λ (cs : List RepliedCall). cs ++ replied c.number c.request given ∷ []) (a.calls ∙ ap (λ (d : Due). answered_in t.wrote ++ recorded_due d) due ∙ append-nil (answered_in t.wrote));
  begun = a.begun ∙ ap (λ (d : Due). length (answered_in t.wrote) + length (asked_due d)) due;
  after_last = due_recorded t.last t.closed a.bodies a.rest id c.request (replied c.number c.request given) (subst (λ (d : Due). IsDueAfter t.last t.closed a.bodies a.rest d) due a.after_last);
  closed = λ z none. absurd (let no : Recorded id (replied c.number c.request given) ≡ NothingDue = none in cc);
  few = subst (λ (d : Due). HasFewMoves d t.call.moves) due a.few;
}

same_call : (c : Call) → SameCall c c
same_call c = record { number = refl; session = refl; moment = refl; request = refl }

-- the same call in another state, with this pending reply, number of moves and last entry
going_as : (t : SessionLog) (i : ℕ) (p : HostedSession) {due : Due} (due' : Due) (moves : ℕ) (l : Option Entry) (lane : LaneView) (c d : Call) {slot : LaneState Call} → (k : IsGoing lane (seat slot i p.session due t)) → k.call ≡ c → SameCall c d
    → moves + left_of d ≤ t.call.moves + left_of c → (IsUnfinished d → HasMoved d.stage moves) → (IsDueFor k.id k.call due → IsDueFor k.id d due')
    → IsGoing lane (seat (Busy d) i p.session due' (record t { call = record t.call { moves = moves }; last = l }))
going_as t i p due' moves l lane c d k own same less way due =
    let request : d.request ≡ k.call.request = same.request ∙ ap (λ (y : Call). y.request) (sym own) in
    let number : d.number ≡ k.call.number = same.number ∙ ap (λ (y : Call). y.number) (sym own) in
    record {
      call = d;
      id = k.id;
      session = k.session;
      number = k.number ∙ ap (λ (n : ℕ). Some n) (sym number);
      slot = refl;
      owner = same.session ∙ ap (λ (y : Call). y.session) (sym own) ∙ k.owner;
      known = (number ∙ k.known.0, same.moment ∙ ap (λ (y : Call). y.moment) (sym own) ∙ k.known.1);
      few = let had = k.few in omega (arith, had, less, ap left_of own, ap bound_of request);
      walked = way;
      waiting = k.waiting;
      ended = k.ended;
      new = subst (λ (n : ℕ). AllByRecursion (λ (z : RepliedCall). z.number ≢ n) (answered_in t.wrote)) (sym number) k.new;
      undecided = k.undecided;
      due = due k.due;
    }

push_own : (t : SessionLog) (h : List Record) (i : ℕ) (p : HostedSession) (c : Call) (given : Reply) → Hosts t (recorded_in i h) (Busy c) i p → IsNewNumber c.number h
    → Hosts t (recorded_in i h ++ replied c.number c.request given ∷ []) (Busy c) i p
push_own t h i p c given host new =
    let at = busy_at p.place p.closed c (seat (Busy c) i p.session host.answered.due t) refl host.at in
    let k = at.2 in
    let own : k.call ≡ c = let z : Busy c ≡ Busy k.call = k.slot in cc in
    elim k.due [
      | inr had ↦
          let all = subst (λ (cs : List RepliedCall). AllByRecursion (λ (y : RepliedCall). y.number ≢ c.number) cs) (host.answered.calls ∙ ap (λ (d : Due). answered_in t.wrote ++ recorded_due d) had.1) (no_call c.number i h new) in
          absurd (all_last (λ (y : RepliedCall). y.number ≢ c.number) (answered_in t.wrote) (replied k.call.number k.call.request had.0) all (ap (λ (y : Call). y.number) own))
      | inl none ↦
          let due : host.answered.due ≡ Unrecorded k.id c.request = none ∙ ap (λ (y : Call). Unrecorded k.id y.request) own in
          record {
            answered = recorded_now t (recorded_in i h) host.answered k.id c given due;
            output = host.output;
            begun = host.begun;
            open_or_gone = host.open_or_gone;
            closed = host.closed;
            at = subst (λ (z : HostedState). IsAtPlace z p.closed (seat (Busy c) i p.session (Recorded k.id (replied c.number c.request given)) t)) (sym at.1) (going_as t i p (Recorded k.id (replied c.number c.request given)) t.call.moves t.last at.0 c c k own (same_call c) (omega arith)
                (subst (λ (y : Call). IsUnfinished y → HasMoved y.stage t.call.moves) own k.walked) (λ z. inr (given, refl)));
          }
    ]

own_record : (i : ℕ) (c : Call) (given : Reply) → c.session ≡ i → recorded_in i (did c given ∷ []) ≡ replied c.number c.request given ∷ []
own_record i c given e = ap (λ (b : Bool). if_so b (replied c.number c.request given ∷ []) ++ []) (eq-eqb c.session i e)

others_record : (i : ℕ) (c : Call) (given : Reply) → (c.session ≡ i → ⊥) → recorded_in i (did c given ∷ []) ≡ []
others_record i c given ne = ap (λ (b : Bool). if_so b (replied c.number c.request given ∷ []) ++ []) (ne_eqb c.session i ne)

-- records of other sessions' calls
push_others : (v : CoreView) (s i : ℕ) (t : SessionLog) (p : HostedSession) (h helped : List Record) → AllByRecursion (IsOfOther v s) helped → IsLegal (h ++ helped)
    → Hosts t (recorded_in i h) (lane_state v i) i p → Hosts t (recorded_in i (h ++ helped)) (lane_state v i) i p
push_others v s i t p h [] all legal host = subst (λ (xs : List Record). Hosts t (recorded_in i xs) (lane_state v i) i p) (sym (append-nil h)) host
push_others v s i t p h (Left z ∷ helped) all legal host = absurd all.0
push_others v s i t p h (Did n z m q given ∷ helped) all legal host =
    let c = all.0.0 in
    let rec : Record = did c given in
    let is : Did n z m q given ≡ rec = all.0.4 in
    let parts : h ++ (Did n z m q given ∷ helped) ≡ (h ++ rec ∷ []) ++ helped = ap (λ (y : Record). h ++ (y ∷ helped)) is ∙ sym (append_assoc h (rec ∷ []) helped) in
    let legal' : IsLegal ((h ++ rec ∷ []) ++ helped) = subst IsLegal parts legal in
    let new = number_is_new h (record { number = c.number; session = c.session; moment = c.moment; request = c.request }) given (legal_front (h ++ rec ∷ []) helped legal') in
    let busy : lane_state v c.session ≡ Busy c = let num : z ≡ c.session = cc in subst (λ (k : ℕ). lane_state v k ≡ Busy c) num all.0.2 in
    let one : Hosts t (recorded_in i (h ++ rec ∷ [])) (lane_state v i) i p = elim (cases_eq c.session i) [
      | inl own ↦
          let slot : lane_state v i ≡ Busy c = subst (λ (k : ℕ). lane_state v k ≡ Busy c) own busy in
          let host' = subst (λ (y : LaneState Call). Hosts t (recorded_in i h) y i p) slot host in
          subst (λ (y : LaneState Call). Hosts t (recorded_in i (h ++ rec ∷ [])) y i p) (sym slot)
          (subst (λ (cs : List RepliedCall). Hosts t cs (Busy c) i p) (sym (flat_map-append (recorded_by i) h (rec ∷ []) ∙ ap (λ (cs : List RepliedCall). recorded_in i h ++ cs) (own_record i c given own)))
          (push_own t h i p c given host' new))
      | inr ne ↦ subst (λ (cs : List RepliedCall). Hosts t cs (lane_state v i) i p)
          (sym (flat_map-append (recorded_by i) h (rec ∷ []) ∙ ap (λ (cs : List RepliedCall). recorded_in i h ++ cs) (others_record i c given ne) ∙ append-nil (recorded_in i h))) host
    ] in
    subst (λ (xs : List Record). Hosts t (recorded_in i xs) (lane_state v i) i p) (sym parts) (push_others v s i t p (h ++ rec ∷ []) helped all.1 legal' one)

-- a session's call in another state: it took effect, or its last block was copied
reslot : (t : SessionLog) (r : List RepliedCall) (i : ℕ) (p : HostedSession) (c d : Call) → Hosts t r (Busy c) i p → SameCall c d → left_of d ≤ left_of c → (IsUnfinished d → ⊥) → Hosts t r (Busy d) i p
reslot t r i p c d host same less done =
    let at = busy_at p.place p.closed c (seat (Busy c) i p.session host.answered.due t) refl host.at in
    let k = at.2 in
    let own : k.call ≡ c = let z : Busy c ≡ Busy k.call = k.slot in cc in record {
      answered = host.answered;
      output = host.output;
      begun = host.begun;
      open_or_gone = host.open_or_gone;
      closed = host.closed;
      at = subst (λ (z : HostedState). IsAtPlace z p.closed (seat (Busy d) i p.session host.answered.due t)) (sym at.1) (going_as t i p host.answered.due t.call.moves t.last at.0 c d k own same (omega (arith, less)) (λ z. absurd (done z)) (due_for k.id k.call d host.answered.due (same.request ∙ ap (λ (y : Call). y.request) (sym own)) (same.number ∙ ap (λ (y : Call). y.number) (sym own))));
    }

-- a call with a record has this pending reply
due_is : (h : List Record) (i : ℕ) (c : Call) (given : Reply) (calls : List RepliedCall) (id : ℕ) (due : Due) → c.session ≡ i → IsAmong (did c given) h → recorded_in i h ≡ calls ++ recorded_due due
    → AllByRecursion (λ (z : RepliedCall). z.number ≢ c.number) calls → IsDueFor id c due
    → due ≡ Recorded id (replied c.number c.request given)
due_is h i c given calls id due owner among is new had =
    let own = replied c.number c.request given in
    let called : CalledBy = record { number = c.number; session = c.session; moment = c.moment; request = c.request } in
    let there = subst (λ (cs : List RepliedCall). Has own cs) (ap (λ (k : ℕ). recorded_in k h) owner ∙ is) (has_recorded called given h among) in
    elim (has_either own calls (recorded_due due) there) [
      | inl before ↦ absurd (has_of (λ (z : RepliedCall). z.number ≢ c.number) own calls new before refl)
      | inr last ↦ elim had [
        | inl none ↦ absurd (subst (λ (d : Due). Has own (recorded_due d)) none last)
        | inr some ↦
            let same : replied c.number c.request some.0 ≡ own = one_only own (replied c.number c.request some.0) (subst (λ (d : Due). Has own (recorded_due d)) some.1 last) in
            some.1 ∙ ap (λ (z : RepliedCall). Recorded id z) same
      ]
    ]

-- its reply is pending
decided_hosts : (t : SessionLog) (h : List Record) (i m : ℕ) (added : List Record) (p : HostedSession) (lane lane' : LaneView) (c : Call) (given : AnswerView) (host : Hosts t (recorded_in i h) (Busy c) i p) → p.place ≡ state.UnderWay lane → lane' ≡ at_rest lane
    → IsAmong (did c given.reply) h → Hosts (with_own t (CallDecided i m added)) (recorded_in i h) Idle i (hosted_session p.session (state.Decided lane' given) p.closed)
decided_hosts t h i m added p lane lane' c given host placed rests among =
    let k : IsGoing lane (seat (Busy c) i p.session host.answered.due t) = subst (λ (z : HostedState). IsAtPlace z p.closed (seat (Busy c) i p.session host.answered.due t)) placed host.at in
    let own : k.call ≡ c = let z : Busy c ≡ Busy k.call = k.slot in cc in
    let due = due_is h i c given.reply (answered_in t.wrote) k.id host.answered.due (ap (λ (y : Call). y.session) (sym own) ∙ k.owner) among host.answered.calls
    (subst (λ (y : Call). AllByRecursion (λ (z : RepliedCall). z.number ≢ y.number) (answered_in t.wrote)) own k.new)
    (subst (λ (y : Call). (host.answered.due ≡ Unrecorded k.id y.request) ⊎ ((reply : Reply) × (host.answered.due ≡ Recorded k.id (replied y.number y.request reply)))) own k.due) in
    record {
      answered =
          let a = host.answered in record {
            bodies = a.bodies;
            rest = a.rest;
            due = a.due;
            are_bodies = a.are_bodies;
            fed = a.fed;
            asked = a.asked;
            calls = a.calls;
            begun = a.begun;
            after_last = (k.id, replied c.number c.request given.reply, due);
            closed = a.closed;
            few = a.few;
          };
      output = host.output;
      begun = host.begun;
      open_or_gone = host.open_or_gone;
      closed = host.closed;
      at = record {
        id = k.id;
        number = c.number;
        request = c.request;
        session = ap (λ (l : LaneView). l.session) rests ∙ k.session;
        idle = ap (λ (l : LaneView). l.call) rests;
        slot = refl;
        waiting = k.waiting;
        ended = k.ended;
        due = due;
        decided = refl;
      };
    }

-- no record is of a session without a lane
none_helped : (v : CoreView) (s i : ℕ) (helped : List Record) → AllByRecursion (IsOfOther v s) helped → lane_state v i ≡ NoLane → recorded_in i helped ≡ []
none_helped v s i [] all none = refl
none_helped v s i (Left z ∷ helped) all none = absurd all.0
none_helped v s i (Did n z m q given ∷ helped) all none =
    let apart : z ≡ i → ⊥ = λ e. absurd (let no : NoLane ≡ Busy all.0.0 = sym none ∙ ap (λ (k : ℕ). lane_state v k) (sym e) ∙ all.0.2 in cc) in
    ap (λ (b : Bool). if_so b (replied n q given ∷ []) ++ recorded_in i helped) (ne_eqb z i apart) ∙ none_helped v s i helped all.1 none

-- a record of another session is of its call, which has begun
other_call : (e : EngineView) (log : List Entry) (h : HasLog e log) (s : ℕ) (r : Record) → IsOfOther e.core s r → IsOfOthersCall log s r
other_call e log h s (Did n z m q given) is =
    let same : Did n z m q given ≡ did is.0 given = is.4 in
    let call = busy_call e log h z is.0 is.2 in
    let number : is.0.number ≡ n = cc in
    let moment : is.0.moment ≡ m = cc in
    (is.1, ((call.0.0 ∙ number, call.0.1), call.1 ∙ moment))
other_call e log h s (Left z) is = is

others_calls : (e : EngineView) (log : List Entry) (h : HasLog e log) (s : ℕ) (helped : List Record) → AllByRecursion (IsOfOther e.core s) helped → AllByRecursion (IsOfOthersCall log s) helped
others_calls e log h s [] all = tt
others_calls e log h s (r ∷ helped) all = (other_call e log h s r all.0, others_calls e log h s helped all.1)

pending_calls : (log : List Entry) (s : ℕ) (helped : List Record) → AllByRecursion (IsOfOthersCall log s) helped → AllByRecursion (IsPending log) helped
pending_calls log s [] all = tt
pending_calls log s (Did n z m q given ∷ helped) all = (all.0.1, pending_calls log s helped all.1)
pending_calls log s (Left z ∷ helped) all = absurd all.0

few_moves : (due : Due) (id : ℕ) (c : Call) (moves : ℕ) → IsDueFor id c due → moves < bound_of c.request → HasFewMoves due moves
few_moves due id c moves (inl is) few = subst (λ (d : Due). HasFewMoves d moves) (sym is) (subst (λ (n : ℕ). moves < n) (most_is c.request) few)
few_moves due id c moves (inr is) few = subst (λ (d : Due). HasFewMoves d moves) (sym is.1) (subst (λ (n : ℕ). moves < n) (most_is c.request) few)

-- the call has moved once more
moved_hosts : (t : SessionLog) (r : List RepliedCall) (i m : ℕ) (added : List Record) (p : HostedSession) (lane : LaneView) (c d : Call) (host : Hosts t r (Busy c) i p) → p.place ≡ state.UnderWay lane → SameCall c d → left_of d < left_of c → 0 < left_of d
    → ((k : IsGoing lane (seat (Busy c) i p.session host.answered.due t)) → HasMoved d.stage (t.call.moves + 1)) → Hosts (with_own t (CallMoved i m added)) r (Busy d) i (hosted_session p.session (state.UnderWay lane) p.closed)
moved_hosts t r i m added p lane c d host placed same less some way =
    let k : IsGoing lane (seat (Busy c) i p.session host.answered.due t) = subst (λ (z : HostedState). IsAtPlace z p.closed (seat (Busy c) i p.session host.answered.due t)) placed host.at in
    let own : k.call ≡ c = let z : Busy c ≡ Busy k.call = k.slot in cc in
    let a = host.answered in
    let request : d.request ≡ k.call.request = same.request ∙ ap (λ (y : Call). y.request) (sym own) in
    let number : d.number ≡ k.call.number = same.number ∙ ap (λ (y : Call). y.number) (sym own) in
    let had = k.few in
    let same_left = ap left_of own in
    record {
      answered = record {
        bodies = a.bodies;
        rest = a.rest;
        due = a.due;
        are_bodies = a.are_bodies;
        fed = a.fed;
        asked = a.asked;
        calls = a.calls;
        begun = a.begun;
        after_last = due_some k.id k.call a.due k.due;
        closed = a.closed;
        few = few_moves a.due k.id k.call (t.call.moves + 1) k.due (omega (arith, had, less, some, same_left));
      };
      output = host.output;
      begun = host.begun;
      open_or_gone = host.open_or_gone;
      closed = host.closed;
      at = going_as t i p a.due (t.call.moves + 1) (Some (CallMoved i m added)) lane c d k own same (omega (arith, less)) (λ z. way k) (due_for k.id k.call d a.due request number);
    }

-- ---- the phase of a session

course_by : (left : Bool) (due count : ℕ) (decided : Bool) (more : ℕ) → left ≡ false → due ≡ count + more → (b : Bool) → decided ≡ b → phase_at left (due - count) decided ≡ phase_at false more b
course_by left due count decided more open_now is b decided_is =
    let less : due - count ≡ more = omega (arith, is) in
    ap (λ (z : Bool). phase_at z (due - count) decided) open_now ∙ ap (λ (n : ℕ). phase_at false n decided) less ∙ ap (λ (z : Bool). phase_at false more z) decided_is

course_resting : (due count more : ℕ) (left decided : Bool) → left ≡ false → due ≡ count + more → more ≡ 0 → phase_at left (due - count) decided ≡ WithoutCall
course_resting due count more left decided open_now is none =
    let less : due - count ≡ 0 = omega (arith, is, none) in
    ap (λ (z : Bool). phase_at z (due - count) decided) open_now ∙ ap (λ (n : ℕ). phase_at false n decided) less

copies_moved : (g : Stage) (moves : ℕ) → IsCopying g → HasMoved g moves → 0 < moves
copies_moved (stage.Copies node left) moves copies h = h
copies_moved _ moves copies h = absurd copies

-- the phase of a session in this place
abbrev pub phase_for : HostedState → SessionPhase
phase_for (state.Resting lane) = WithoutCall
phase_for (state.UnderWay lane) = Running
phase_for (state.Decided lane given) = Replying
phase_for (state.Gone c) = HasLeft

-- ---- a session of an engine

module _ (e : EngineView) (log : List Entry) (h : HasLog e log) (at : ℕ) (p : HostedSession) (stood : slice_get e.hosted at ≡ Some p) where
  abbrev t : SessionLog
  t = of_session (at + 1) log

  abbrev r : List RepliedCall
  r = recorded_in (at + 1) (linearization log)

  pub host : Hosts t r (lane_state e.core (at + 1)) (at + 1) p
  host = h.each at p stood

  pub within : at < length e.hosted
  within = slice_get_within e.hosted at p stood

  pub known : IsKnown log (at + 1)
  known = (omega arith, omega (arith, within, h.count))

  -- the session is in its place, and is present or has left
  pub placed_at : (o : HostedState) → p.place ≡ o → IsAtPlace o p.closed (seat (lane_state e.core (at + 1)) (at + 1) p.session host.answered.due t)
  placed_at o placed = subst (λ (z : HostedState). IsAtPlace z p.closed (seat (lane_state e.core (at + 1)) (at + 1) p.session host.answered.due t)) placed host.at

  present_or_gone : (o : Option Cause) → p.session.ended ≡ o → IsOpenOrGone o t.left t.closed host.answered.bodies host.answered.rest p.session.unread
  present_or_gone o ended = subst (λ (z : Option Cause). IsOpenOrGone z t.left t.closed host.answered.bodies host.answered.rest p.session.unread) ended host.open_or_gone

  -- a session that has not ended is present, and has the unread bytes of the log
  pub is_open : p.session.ended ≡ None → (t.left ≡ false) × (host.answered.rest ≡ p.session.unread)
  is_open unended = present_or_gone None unended

  pub here : p.session.ended ≡ None → IsHere log (at + 1)
  here unended = (known, (is_open unended).0)

  same : IsSame e.core e.core (linearization log)
  same = record { joins = refl; drawn = refl; joined = refl; slots = λ i. refl; history = h.history }

  pub fed_log : (bytes : Vec ℕ Global) (q : HostedSession) → FeedGives p bytes.items happened.Fed q → HasLog (changed_at e at e.core q) (log ++ BytesFed (at + 1) bytes ∷ [])
  fed_log bytes q g = stays_on e log at (BytesFed (at + 1) bytes) e.core q h (record {
    quiet = (refl, refl, refl, refl, refl, refl);
    within = within;
    same = same;
    blocked = h.blocked;
    own = subst (λ (z : HostedSession). Hosts (with_own t (BytesFed (at + 1) bytes)) r (lane_state e.core (at + 1)) (at + 1) z) (sym g.now) (fed_hosts t r (lane_state e.core (at + 1)) (at + 1) p bytes host g.unended);
    lawful = let it = here g.unended in (it, sym (host.closed it.1) ∙ g.unclosed);
    left = refl;
  })

  pub sent_log : (n : ℕ) (q : HostedSession) → SentGives p n happened.Sent q → HasLog (changed_at e at e.core q) (log ++ BytesSent (at + 1) n ∷ [])
  sent_log n q g = stays_on e log at (BytesSent (at + 1) n) e.core q h (record {
    quiet = (refl, refl, refl, refl, refl, refl);
    within = within;
    same = same;
    blocked = h.blocked;
    own = subst (λ (z : HostedSession). Hosts (with_own t (BytesSent (at + 1) n)) r (lane_state e.core (at + 1)) (at + 1) z) (sym g.now) (sent_hosts t r (lane_state e.core (at + 1)) (at + 1) n p host g.within);
    lawful =
        let o = host.output in
        let all : length (transcript t.wrote) ≡ length o.sent + length p.session.output = ap (λ (b : List ℕ). length b) o.packets ∙ length-append o.sent p.session.output in
        let count = o.count_is in
        let few = g.within in
        (known, omega (arith, all, count, few));
    left = refl;
  })

  -- ---- turns

  rests_before : (answer : Response) → calls_answered answer ≡ [] → IsInPhase log (at + 1) WithoutCall → IsInPhase log (at + 1) (phase_before answer)
  rests_before (ByCall id number request reply) none is = cc
  rests_before _ none is = is

  pub waits : {id : ℕ} {c : RepliedCall} → p.session.ended ≡ None → host.answered.due ≡ Recorded id c → t.call.decided ≡ true → IsInPhase log (at + 1) Replying
  waits ended due decided = (known, course_by t.left t.begun (length (answered_in t.wrote)) t.call.decided 1 (here ended).1 (host.answered.begun ∙ ap (λ (d : Due). length (answered_in t.wrote) + length (asked_due d)) due) true decided)

  hosted_is : {y : SessionView} {place : HostedState} → (q : HostedSession) → q.session ≡ y → q.place ≡ place → q.closed ≡ p.closed → hosted_session y place p.closed ≡ q
  hosted_is {y = y} {place = place} q session placed closed =
      sym (ap (λ (z : SessionView). hosted_session z q.place q.closed) session ∙ ap (λ (z : HostedState). hosted_session y z q.closed) placed ∙ ap (λ (z : Bool). hosted_session y place z) closed)

  closed_is : (q : HostedSession) → q.closed ≡ true → q.session ≡ p.session → q.place ≡ p.place → hosted_session p.session p.place true ≡ q
  closed_is q closed session placed =
      sym (ap (λ (z : SessionView). hosted_session z q.place q.closed) session ∙ ap (λ (z : HostedState). hosted_session p.session z q.closed) placed ∙ ap (λ (z : Bool). hosted_session p.session p.place z) closed)

  pub resting : (lane : LaneView) → p.place ≡ state.Resting lane → IsAtPlace (state.Resting lane) p.closed (seat (lane_state e.core (at + 1)) (at + 1) p.session host.answered.due t)
  resting lane placed = placed_at (state.Resting lane) placed

  pub at_rests : (lane : LaneView) → p.place ≡ state.Resting lane → IsInPhase log (at + 1) WithoutCall
  at_rests lane placed =
      let k = (resting lane placed).0 in
      (known, course_resting t.begun (length (answered_in t.wrote)) (length (asked_due host.answered.due)) t.left t.call.decided (here k.ended).1 host.answered.begun (ap (λ (d : Due). length (asked_due d)) k.due))

  pub idle_log : (m : ℕ) (lane : LaneView) (v' : CoreView) (q : HostedSession) → p.place ≡ state.Resting lane → q.closed ≡ p.closed
      → ReadGives (stand e.core p.session p.place) lane m happened.Idle [] (stand v' q.session q.place) → HasLog (changed_at e at v' q) (log ++ SessionIdle (at + 1) m ∷ [])
  idle_log m lane v' q placed closed g =
      let k = (resting lane placed).0 in
      let open_now = is_open k.ended in
      let x = SessionIdle (at + 1) m in
      stays_on e log at x v' q h (record {
        quiet = (refl, refl, refl, refl, refl, refl);
        within = within;
        same = subst (λ (z : CoreView). IsSame e.core z (linearization log)) (sym g.1) same;
        blocked = h.blocked;
        own = subst (λ (z : HostedSession). Hosts (with_own t x) r (lane_state e.core (at + 1)) (at + 1) z) (hosted_is q g.0.2 (g.3 ∙ sym placed) closed) (record {
          answered = answered_as t r t.sent t.closed t.left (Some x) host.answered (k.due, subst (λ (b : List ℕ). IsCut b cut.More) (sym open_now.1) g.0.1) host.answered.closed;
          output = host.output;
          begun = host.begun;
          open_or_gone = host.open_or_gone;
          closed = host.closed;
          at = host.at;
        });
        lawful = at_rests lane placed;
        left = refl;
      })

  -- a body that needs no call
  pub wrote_log : (m : ℕ) (lane : LaneView) (v' : CoreView) (q : HostedSession) → p.place ≡ state.Resting lane → q.closed ≡ p.closed
      → ReadGives (stand e.core p.session p.place) lane m happened.Wrote [] (stand v' q.session q.place)
      → (answer : Response) × HasLog (changed_at e at v' q) (log ++ ReplyWritten (at + 1) m answer false ∷ [])
  wrote_log m lane v' q placed closed g =
      let k = resting lane placed in
      let idle : lane_state e.core lane.session ≡ Idle = ap (λ (n : ℕ). lane_state e.core n) k.0.session ∙ k.0.slot in
      let x : AnswersOne p.session q.session (λ a. MayWrite log (at + 1) a) = answers_one p.session lane e.core q.session (λ a. MayWrite log (at + 1) a) g.0
      (λ id reply. tt) tt (λ id request fault refused. may_refuse log (at + 1) e.core id request fault h.begun refused) in
      let open_now = is_open k.0.ended in
      let y = ReplyWritten (at + 1) m x.answer false in
      let unclosed : t.closed ≡ false = sym (host.closed open_now.0) ∙ k.1 in (
        x.answer,
        stays_on e log at y v' q h (record {
          quiet = (refl, refl, refl, refl, refl, refl);
          within = within;
          same = subst (λ (z : CoreView). IsSame e.core z (linearization log)) (sym g.1) same;
          blocked = h.blocked;
          own = subst (λ (z : HostedSession). Hosts (with_own t y) r (lane_state e.core (at + 1)) (at + 1) z) (hosted_is q (x.now) g.3 closed)
              (wrote_hosts t r (lane_state e.core (at + 1)) (at + 1) m p lane x.body x.rest x.answer host k unclosed open_now x.begins x.asks x.none);
          lawful = (rests_before x.answer x.none (at_rests lane placed), x.may, sym unclosed);
          left = refl;
        }),
      )

  -- a session that has left
  pub gone_log : (m : ℕ) (c : Cause) (v' : CoreView) (q : HostedSession) → p.place ≡ state.Gone c → q.closed ≡ p.closed → v' ≡ e.core → q.session ≡ p.session → q.place ≡ state.Gone c
      → HasLog (changed_at e at v' q) (log ++ SessionEnded (at + 1) m c false ∷ [])
  gone_log m c v' q placed closed core session place =
      let k = placed_at (state.Gone c) placed in
      let away = present_or_gone (Some c) k.ended in
      let x = SessionEnded (at + 1) m c false in
      stays_on e log at x v' q h (record {
        quiet = (refl, refl, refl, refl, refl, refl);
        within = within;
        same = subst (λ (z : CoreView). IsSame e.core z (linearization log)) (sym core) same;
        blocked = h.blocked;
        own = subst (λ (z : HostedSession). Hosts (with_own t x) r (lane_state e.core (at + 1)) (at + 1) z) (hosted_is q session (place ∙ sym placed) closed) (record {
          answered = answered_as t r t.sent t.closed true (Some x) host.answered (k.due, away.1) (λ c n. refl);
          output = host.output;
          begun = host.begun;
          open_or_gone = subst (λ (o : Option Cause). IsOpenOrGone o (with_own t x).left (with_own t x).closed host.answered.bodies host.answered.rest p.session.unread) (sym k.ended) (refl, away.1);
          closed = λ l. absurd (let z : true ≡ false = l in cc);
          at = host.at;
        });
        lawful = (known, ap (λ (z : Bool). phase_at z (t.begun - length (answered_in t.wrote)) t.call.decided) away.0);
        left = sym away.0;
      })

  -- the session leaves the core
  away_hosts : (x : Entry) (t' : SessionLog) (c : Cause) (y : SessionView) (a : IsAnswered t' r) → t'.left ≡ true → a.due ≡ NothingDue → IsUnsent t'.wrote t'.sent y.output → y.begun ≡ has_begun a.bodies → IsWhy c t'.closed a.bodies a.rest → y.ended ≡ Some c
      → (closed : Bool) → Hosts t' r NoLane (at + 1) (hosted_session y (state.Gone c) closed)
  away_hosts x t' c y a left due output begun why ended closed = record {
    answered = a;
    output = output;
    begun = begun;
    open_or_gone = subst (λ (o : Option Cause). IsOpenOrGone o t'.left t'.closed a.bodies a.rest y.unread) (sym ended) (left, why);
    closed = λ l. absurd (let z : true ≡ false = sym left ∙ l in cc);
    at = record { slot = refl; ended = ended; due = due };
  }

  pub ended_log : (m : ℕ) (lane : LaneView) (c : Cause) (v' : CoreView) (q : HostedSession) (added : List Record) → p.place ≡ state.Resting lane → q.closed ≡ p.closed → IsHistory v' (linearization log ++ added)
      → ReadGives (stand e.core p.session p.place) lane m (happened.Ended c) added (stand v' q.session q.place) → HasLog (changed_at e at v' q) (log ++ SessionEnded (at + 1) m c true ∷ [])
  ended_log m lane c v' q added placed closed history g =
      let k = (resting lane placed).0 in
      let open_now = is_open k.ended in
      let x = SessionEnded (at + 1) m c true in
      let a = host.answered in
      elim g.0 [
        | inl none ↦ absurd (let z : None ≡ Some c = sym k.ended ∙ none.0 in cc)
        | inr end ↦
            let y : SessionView = record { unread = []; output = p.session.output; begun = p.session.begun; waiting = None; ended = Some c } in
            let why : IsWhy c t.closed a.bodies a.rest =
            inr (subst (λ (b : Bool). EndsBy b a.rest c) host.begun (subst (λ (b : List ℕ). EndsBy p.session.begun b c) (sym open_now.1) end.1)) in
            leaves_on e log at x v' q h (record {
              leaving = (refl, refl, refl, refl, refl, refl, refl, refl);
              within = within;
              left = subst (λ (n : ℕ). SessionLeaves e.core v' n) k.session g.1;
              history = subst (λ (n : ℕ). IsHistory v' (linearization log ++ Left n ∷ [])) k.session (subst (λ (z : List Record). IsHistory v' (linearization log ++ z)) g.2 history);
              own = subst (λ (z : HostedSession). Hosts (with_own t x) r NoLane (at + 1) z) (hosted_is q end.2 g.3 closed)
                  (away_hosts x (with_own t x) c y (answered_as t r t.sent t.closed true (Some x) a (k.due, why) (λ c n. refl)) refl k.due host.output host.begun why refl p.closed);
              lawful = at_rests lane placed;
              here = open_now.0;
            })
      ]

  -- the pending reply is written
  pub answer_log : (m : ℕ) (lane : LaneView) (given : AnswerView) (v' : CoreView) (q : HostedSession) (added : List Record) (closed : Bool) → p.place ≡ state.Decided lane given → p.closed ≡ closed → q.closed ≡ p.closed
      → IsHistory v' (linearization log ++ added) → WritesAnswer (stand e.core p.session p.place) lane given closed added (stand v' q.session q.place)
      → (answer : Response) × (HasLog (changed_at e at v' q) (log ++ ReplyWritten (at + 1) m answer closed ∷ []) × (added_by (ReplyWritten (at + 1) m answer closed) ≡ added))
  answer_log m lane given v' q added closed placed was same_closed history g =
      let k = placed_at (state.Decided lane given) placed in
      let answer = ByCall k.id k.number k.request given.reply in
      let wrote = subst (λ (z : Option ℕ). IfSome z (λ i. g.0 ≡ record p.session { output = p.session.output ++ packet (reply_body i given.reply); waiting = None })) k.waiting g.1 in
      (answer, (answer_by m lane given v' q added closed placed was same_closed history k g.0 wrote g.2, settled m answer lane closed g.0 added (stand v' q.session q.place) k.session g.2))
    where
      settled : (m : ℕ) (answer : Response) (lane : LaneView) (closed : Bool) (mid : SessionView) (added : List Record) (b : Stand) → lane.session ≡ at + 1 → RestsOrLeaves (stand e.core mid (state.Resting lane)) lane closed added b
          → added_by (ReplyWritten (at + 1) m answer closed) ≡ added
      settled m answer lane false mid added b session g = sym g.1
      settled m answer lane true mid added b session g = sym (g.1 ∙ ap (λ (n : ℕ). Left n ∷ []) session)

      answer_by : (m : ℕ) (lane : LaneView) (given : AnswerView) (v' : CoreView) (q : HostedSession) (added : List Record) (closed : Bool) → p.place ≡ state.Decided lane given → p.closed ≡ closed → q.closed ≡ p.closed
          → IsHistory v' (linearization log ++ added) → (k : HasAnswer lane given (seat (lane_state e.core (at + 1)) (at + 1) p.session host.answered.due t)) (mid : SessionView)
          → mid ≡ record p.session { output = p.session.output ++ packet (reply_body k.id given.reply); waiting = None }
          → RestsOrLeaves (stand e.core mid (state.Resting lane)) lane closed added (stand v' q.session q.place)
          → HasLog (changed_at e at v' q) (log ++ ReplyWritten (at + 1) m (ByCall k.id k.number k.request given.reply) closed ∷ [])
      answer_by m lane given v' q added false placed was same_closed history k mid wrote g =
          let open_now = is_open k.ended in
          let unclosed : t.closed ≡ false = sym (host.closed open_now.0) ∙ was in
          let answer = ByCall k.id k.number k.request given.reply in
          let c = replied k.number k.request given.reply in
          let x = ReplyWritten (at + 1) m answer false in
          let o = host.output in
          let y : SessionView = record p.session { output = p.session.output ++ packet (reply_body k.id given.reply); waiting = None } in
          stays_on e log at x v' q h (record {
            quiet = (refl, refl, refl, refl, refl, refl);
            within = within;
            same = subst (λ (z : CoreView). IsSame e.core z (linearization log)) (sym g.0) same;
            blocked = h.blocked;
            own = subst (λ (z : HostedSession). Hosts (with_own t x) r (lane_state e.core (at + 1)) (at + 1) z) (hosted_is q (g.2 ∙ wrote) g.3 same_closed) (record {
              answered = replied_to t r host.answered k.id c t.left (Some x) k.due refl (λ z. absurd (let no : true ≡ false = sym z ∙ unclosed in cc));
              output = record { sent = o.sent; count_is = o.count_is; packets = output_push t.wrote o.sent p.session.output answer o.packets };
              begun = host.begun;
              open_or_gone = subst (λ (z : Option Cause). IsOpenOrGone z (with_own t x).left (with_own t x).closed host.answered.bodies host.answered.rest p.session.unread) (sym k.ended) open_now;
              closed = host.closed;
              at = (record { session = k.session; idle = k.idle; slot = k.slot; waiting = refl; ended = k.ended; due = refl }, was);
            });
            lawful = (waits k.ended k.due k.decided, host.answered.calls ∙ ap (λ (d : Due). answered_in t.wrote ++ recorded_due d) k.due ∙ sym (answered_push t.wrote answer), sym unclosed);
            left = refl;
          })
      answer_by m lane given v' q added true placed was same_closed history k mid wrote g =
          let open_now = is_open k.ended in
          let closed_is : t.closed ≡ true = sym (host.closed open_now.0) ∙ was in
          let answer = ByCall k.id k.number k.request given.reply in
          let c = replied k.number k.request given.reply in
          let x = ReplyWritten (at + 1) m answer true in
          let o = host.output in
          let y : SessionView = record p.session { unread = []; output = p.session.output ++ packet (reply_body k.id given.reply); waiting = None; ended = Some Closed } in
          leaves_on e log at x v' q h (record {
            leaving = (refl, refl, refl, refl, refl, refl, refl, refl);
            within = within;
            left = subst (λ (n : ℕ). SessionLeaves e.core v' n) k.session g.0;
            history = subst (λ (n : ℕ). IsHistory v' (linearization log ++ Left n ∷ [])) k.session (subst (λ (z : List Record). IsHistory v' (linearization log ++ z)) g.1 history);
            own = subst (λ (z : HostedSession). Hosts (with_own t x) r NoLane (at + 1) z) (hosted_is q (g.2 ∙ ap (λ (z : SessionView). record z { unread = []; ended = Some Closed }) wrote) g.3 same_closed)
                (away_hosts x (with_own t x) Closed y (replied_to t r host.answered k.id c true (Some x) k.due refl (λ z. refl)) refl refl
                (record { sent = o.sent; count_is = o.count_is; packets = output_push t.wrote o.sent p.session.output answer o.packets }) host.begun (inl (refl, closed_is)) refl p.closed);
            lawful = (waits k.ended k.due k.decided, host.answered.calls ∙ ap (λ (d : Due). answered_in t.wrote ++ recorded_due d) k.due ∙ sym (answered_push t.wrote answer), sym closed_is);
            here = open_now.0;
          })

  pub going : (lane : LaneView) → p.place ≡ state.UnderWay lane → IsGoing lane (seat (lane_state e.core (at + 1)) (at + 1) p.session host.answered.due t)
  going lane placed = placed_at (state.UnderWay lane) placed

  pub walks : (lane : LaneView) → p.place ≡ state.UnderWay lane → IsInPhase log (at + 1) Running
  walks lane placed =
      let k = going lane placed in
      (known, course_by t.left t.begun (length (answered_in t.wrote)) t.call.decided 1 (here k.ended).1 (host.answered.begun ∙ ap (λ (n : ℕ). length (answered_in t.wrote) + n) (due_one k.id k.call host.answered.due k.due)) false k.undecided)

  away_phase : (c : Cause) → p.place ≡ state.Gone c → phase t ≡ HasLeft
  away_phase c placed = ap (λ (z : Bool). phase_at z (t.begun - length (answered_in t.wrote)) t.call.decided) (present_or_gone (Some c) (placed_at (state.Gone c) placed).ended).0

  pub phase_is : (o : HostedState) → p.place ≡ o → phase t ≡ phase_for o
  phase_is (state.Resting lane) placed = (at_rests lane placed).1
  phase_is (state.UnderWay lane) placed = (walks lane placed).1
  phase_is (state.Decided lane given) placed = let k = placed_at (state.Decided lane given) placed in (waits k.ended k.due k.decided).1
  phase_is (state.Gone c) placed = away_phase c placed

  -- ---- closing

  closed_away : (lane : LaneView) (v' : CoreView) (q : HostedSession) (added : List Record) → p.place ≡ state.Resting lane → q.closed ≡ p.closed → IsHistory v' (linearization log ++ added)
      → RestsOrLeaves (stand e.core p.session p.place) lane true added (stand v' q.session q.place) → HasLog (changed_at e at v' q) (log ++ SessionClosed (at + 1) true ∷ [])
  closed_away lane v' q added placed closed history g =
      let k = (resting lane placed).0 in
      let open_now = is_open k.ended in
      let x = SessionClosed (at + 1) true in
      let y : SessionView = record p.session { unread = []; ended = Some Closed } in
      leaves_on e log at x v' q h (record {
        leaving = (refl, refl, refl, refl, refl, refl, refl, refl);
        within = within;
        left = subst (λ (n : ℕ). SessionLeaves e.core v' n) k.session g.0;
        history = subst (λ (n : ℕ). IsHistory v' (linearization log ++ Left n ∷ [])) k.session (subst (λ (z : List Record). IsHistory v' (linearization log ++ z)) g.1 history);
        own = subst (λ (z : HostedSession). Hosts (with_own t x) r NoLane (at + 1) z) (hosted_is q g.2 g.3 closed)
            (away_hosts x (with_own t x) Closed y (answered_as t r t.sent true true (Some x) host.answered tt (λ c n. refl)) refl k.due host.output host.begun (inl (refl, refl)) refl p.closed);
        lawful = at_rests lane placed;
        here = open_now.0;
      })

  closed_stays : (v' : CoreView) (q : HostedSession) (added : List Record) (f : SessionPhase) → phase t ≡ f → f ≢ WithoutCall → StaysAs (stand e.core p.session p.place) added (stand v' q.session q.place)
      → Hosts (with_own t (SessionClosed (at + 1) false)) r (lane_state e.core (at + 1)) (at + 1) q → HasLog (changed_at e at v' q) (log ++ SessionClosed (at + 1) false ∷ [])
  closed_stays v' q added f is away g own = stays_on e log at (SessionClosed (at + 1) false) v' q h (record {
    quiet = (refl, refl, refl, refl, refl, refl);
    within = within;
    same = subst (λ (z : CoreView). IsSame e.core z (linearization log)) (sym g.0) same;
    blocked = h.blocked;
    own = own;
    lawful = (known, λ rests. away (sym is ∙ rests));
    left = refl;
  })

  pub closed_log : (o : HostedState) (v' : CoreView) (q : HostedSession) (added : List Record) (goes_on : Bool) → p.place ≡ o → IsHistory v' (linearization log ++ added)
      → ClosesAt o (stand e.core p.session p.place) added (stand v' q.session q.place) goes_on → q.closed ≡ (p.closed || goes_on)
      → (leaves : Bool) × HasLog (changed_at e at v' q) (log ++ SessionClosed (at + 1) leaves ∷ [])
  closed_log (state.Resting lane) v' q added goes_on placed history g closed = (true, closed_away lane v' q added placed (closed ∙ or_false p.closed goes_on g.1) history g.0)
  closed_log (state.UnderWay lane) v' q added goes_on placed history g closed =
      let k = placed_at (state.UnderWay lane) placed in (
        false,
        closed_stays v' q added Running (walks lane placed).1 (λ z. cc) g.0 (subst (λ (z : HostedSession). Hosts (with_own t (SessionClosed (at + 1) false)) r (lane_state e.core (at + 1)) (at + 1) z) (closed_is q (closed ∙ or_true p.closed goes_on g.1) g.0.2 g.0.3)
            (later_hosts t r (lane_state e.core (at + 1)) (at + 1) p host k.ended (due_some k.id k.call host.answered.due k.due)
            (subst (λ (z : HostedState). IsAtPlace z true (seat (lane_state e.core (at + 1)) (at + 1) p.session host.answered.due t)) (sym placed) k))),
      )
  closed_log (state.Decided lane given) v' q added goes_on placed history g closed =
      let k = placed_at (state.Decided lane given) placed in (
        false,
        closed_stays v' q added Replying (waits k.ended k.due k.decided).1 (λ z. cc) g.0 (subst (λ (z : HostedSession). Hosts (with_own t (SessionClosed (at + 1) false)) r (lane_state e.core (at + 1)) (at + 1) z) (closed_is q (closed ∙ or_true p.closed goes_on g.1) g.0.2 g.0.3)
            (later_hosts t r (lane_state e.core (at + 1)) (at + 1) p host k.ended (λ n. let z : Recorded k.id (replied k.number k.request given.reply) ≡ NothingDue = sym k.due ∙ n in cc)
            (subst (λ (z : HostedState). IsAtPlace z true (seat (lane_state e.core (at + 1)) (at + 1) p.session host.answered.due t)) (sym placed) k))),
      )
  closed_log (state.Gone c) v' q added goes_on placed history g closed =
      let k = placed_at (state.Gone c) placed in
      let away = present_or_gone (Some c) k.ended in
      let x = SessionClosed (at + 1) false in (
        false,
        closed_stays v' q added HasLeft (ap (λ (z : Bool). phase_at z (t.begun - length (answered_in t.wrote)) t.call.decided) away.0) (λ z. cc) g.0 (subst (λ (z : HostedSession). Hosts (with_own t x) r (lane_state e.core (at + 1)) (at + 1) z) (hosted_is q g.0.2 g.0.3 (closed ∙ or_false p.closed goes_on g.1)) (record {
          answered = answered_as t r t.sent true t.left (Some x) host.answered tt (λ c n. away.0);
          output = host.output;
          begun = host.begun;
          open_or_gone = subst (λ (o : Option Cause). IsOpenOrGone o (with_own t x).left (with_own t x).closed host.answered.bodies host.answered.rest p.session.unread) (sym k.ended) (away.0, why_closed c t.closed host.answered.bodies host.answered.rest away.1);
          closed = λ l. absurd (let z : true ≡ false = sym away.0 ∙ l in cc);
          at = host.at;
        })),
      )

  -- ---- a call begins

  pub begun_log : (m : ℕ) (lane : LaneView) (v' : CoreView) (q : HostedSession) → p.place ≡ state.Resting lane → q.closed ≡ p.closed → IsHistory v' (linearization log)
      → ReadGives (stand e.core p.session p.place) lane m happened.Begun [] (stand v' q.session q.place) → HasLog (changed_at e at v' q) (log ++ CallBegun (at + 1) m (begun_in log + 1) ∷ [])
  begun_log m lane v' q placed closed history g =
      let k = resting lane placed in
      let open_now = is_open k.0.ended in
      let unclosed : t.closed ≡ false = sym (host.closed open_now.0) ∙ k.1 in
      let x = CallBegun (at + 1) m (begun_in log + 1) in
      let o = g.1.1 in
      let b = g.2 in
      let at_slot : lane_state v' (at + 1) ≡ Busy (new_call (e.core.drawn + 1) lane.session m g.0) = ap (λ (n : ℕ). lane_state v' n) (sym k.0.session) ∙ b.own in
      goes_on e log at x v' q h (record {
        is_of = refl;
        within = within;
        history = subst (λ (z : List Record). IsHistory v' z) (sym (append-nil (linearization log))) history;
        joins = b.joins;
        drawn = b.drawn;
        joined = let j = b.joined in omega (arith, j);
        opens = refl;
        others = λ i z ne stood'. others_same e.core v' (i + 1) [] (b.others (i + 1) (λ n. ne (omega (arith, n, k.0.session)))) refl (of_session (i + 1) log) (recorded_in (i + 1) (linearization log)) z (h.each i z stood');
        nobody = λ i ne was. (b.others i (λ z. ne (z ∙ k.0.session)) ∙ was, refl);
        own = subst (λ (z : List RepliedCall). Hosts (with_own t x) z (lane_state v' (at + 1)) (at + 1) q) (sym (append-nil r)) (subst (λ (z : HostedSession). Hosts (with_own t x) r (lane_state v' (at + 1)) (at + 1) z) (hosted_is q o.now g.4 closed) (record {
          answered = begun_answered t r p host m (begun_in log + 1) o.body o.rest o.id g.0 k.0.due unclosed open_now o.begins o.asks;
          output = host.output;
          begun = sym (begun_push host.answered.bodies o.body);
          open_or_gone = (open_now.0, refl);
          closed = host.closed;
          at = record {
            call = new_call (e.core.drawn + 1) lane.session m g.0;
            id = o.id;
            session = k.0.session;
            number = ap (λ (n : ℕ). Some n) b.drawn;
            slot = at_slot;
            owner = k.0.session;
            known = (ap (λ (n : ℕ). n + 1) h.begun, refl);
            few = let f = b.fresh.1 in omega (arith, f);
            walked = λ z. refl;
            waiting = refl;
            ended = refl;
            new = subst (λ (cs : List RepliedCall). AllByRecursion (λ (c : RepliedCall). c.number ≢ e.core.drawn + 1) cs)
                (host.answered.calls ∙ ap (λ (d : Due). answered_in t.wrote ++ recorded_due d) k.0.due ∙ append-nil (answered_in t.wrote))
                (no_call (e.core.drawn + 1) (at + 1) (linearization log) (h.history.later (e.core.drawn + 1) (omega arith)));
            undecided = refl;
            due = inl refl;
          };
        }));
        lawful = (at_rests lane placed, refl);
        pending = tt;
        blocked = held_on e.core v' (keeps_others e.core v' lane.session b.others (λ z busy. let no : Idle ≡ Busy z = sym b.idle ∙ busy in cc)) (blocked_in log) h.blocked;
        left = omega arith;
      })

  -- ---- a call is blocked

  pub blocked_log : (m holder : ℕ) (lane lane' : LaneView) (v' : CoreView) (q : HostedSession) → p.place ≡ state.UnderWay lane → q.closed ≡ p.closed → q.session ≡ p.session → IsHistory v' (linearization log)
      → StepGives (before e.core (linearization log) lane) (happened.Blocked holder) (after_turn v' [] lane') q.place → HasLog (changed_at e at v' q) (log ++ CallBlocked (at + 1) m holder ∷ [])
  blocked_log m holder lane lane' v' q placed closed session history g =
      let k = placed_at (state.UnderWay lane) placed in
      let b = g.0.1 in
      let x = CallBlocked (at + 1) m holder in
      let other = busy_call e log h b.other b.call b.slot in
      let held : IsHeldUp e.core (at + 1) = (g.0.0, ap (λ (n : ℕ). lane_state e.core n) (sym k.session) ∙ b.own.slot, record { other = b.other; call = b.call; slot = b.slot; deeper = b.deeper }) in
      stays_on e log at x v' q h (record {
        quiet = (refl, refl, refl, refl, refl, refl);
        within = within;
        same = record { joins = b.looks.joins; drawn = b.looks.drawn; joined = b.looks.joined; slots = b.looks.slots; history = history };
        blocked = (held, h.blocked);
        own = subst (λ (z : HostedSession). Hosts (with_own t x) r (lane_state e.core (at + 1)) (at + 1) z) (hosted_is q session (g.2 ∙ ap (λ (l : LaneView). state.UnderWay l) g.1.lane ∙ sym placed) closed) (record {
          answered = answered_as t r t.sent t.closed t.left (Some x) host.answered (due_some k.id k.call host.answered.due k.due) host.answered.closed;
          output = host.output;
          begun = host.begun;
          open_or_gone = host.open_or_gone;
          closed = host.closed;
          at = host.at;
        });
        lawful = (walks lane placed, (b.other, (λ z. b.apart (z ∙ sym k.session)), subst (λ (n : ℕ). IsUnanswered (of_session b.other log) n) b.number other.0));
        left = refl;
      })

  -- ---- a call is decided

  -- the session's call in the core
  busy_host : (c : Call) → lane_state e.core (at + 1) ≡ Busy c → Hosts t r (Busy c) (at + 1) p
  busy_host c slot = subst (λ (z : LaneState Call). Hosts t r z (at + 1) p) slot host

  pub fetched_log : (m : ℕ) (lane : LaneView) (given : AnswerView) (c : Call) (lane' : LaneView) (v' : CoreView) (q : HostedSession) → p.place ≡ state.UnderWay lane → q.closed ≡ p.closed → q.session ≡ p.session → q.place ≡ state.Decided lane' given
      → IsHistory v' (linearization log) → Fetches (before e.core (linearization log) lane) (after_turn v' [] lane') c given.reply → lane' ≡ at_rest lane → HasLog (changed_at e at v' q) (log ++ CallDecided (at + 1) m [] ∷ [])
  fetched_log m lane given c lane' v' q placed closed session place history f rests =
      let k = going lane placed in
      let slot : lane_state e.core (at + 1) ≡ Busy c = ap (λ (n : ℕ). lane_state e.core n) (sym k.session) ∙ f.own.slot in
      let idle : lane_state v' (at + 1) ≡ Idle = ap (λ (n : ℕ). lane_state v' n) (sym k.session) ∙ f.slot.own in
      let x = CallDecided (at + 1) m [] in
      goes_on e log at x v' q h (record {
        is_of = refl;
        within = within;
        history = subst (λ (z : List Record). IsHistory v' z) (sym (append-nil (linearization log))) history;
        joins = f.slot.joins;
        drawn = let d = f.slot.drawn in omega (arith, d);
        joined = let j = f.slot.joined in omega (arith, j);
        opens = refl;
        others = λ i z ne stood'. others_same e.core v' (i + 1) [] (f.slot.others (i + 1) (λ n. ne (omega (arith, n, k.session)))) refl (of_session (i + 1) log) (recorded_in (i + 1) (linearization log)) z (h.each i z stood');
        nobody = λ i ne was. (f.slot.others i (λ z. ne (z ∙ k.session)) ∙ was, refl);
        own = subst (λ (z : List RepliedCall). Hosts (with_own t x) z (lane_state v' (at + 1)) (at + 1) q) (sym (append-nil r))
            (subst (λ (z : LaneState Call). Hosts (with_own t x) r z (at + 1) q) (sym idle)
            (subst (λ (z : HostedSession). Hosts (with_own t x) r Idle (at + 1) z) (hosted_is q session place closed) (decided_hosts t (linearization log) (at + 1) m [] p lane lane' c given (busy_host c slot) placed rests f.recorded)));
        lawful = walks lane placed;
        pending = tt;
        blocked = tt;
        left = omega arith;
      })

  -- another session, by the decision's effect on its call
  helped_other : (v' : CoreView) (helped : List Record) (i : ℕ) (z : HostedSession) (u : SessionLog) (cs : List RepliedCall) → (lane_state v' i ≡ lane_state e.core i) ⊎ IsHelped e.core v' i helped ⊎ IsFinished e.core v' i helped
      → Hosts u cs (lane_state e.core i) i z → Hosts u cs (lane_state v' i) i z
  helped_other v' helped i z u cs (inl same_slot) had = subst (λ (y : LaneState Call). Hosts u cs y i z) (sym same_slot) had
  helped_other v' helped i z u cs (inr (inl b)) had =
      let host' = subst (λ (y : LaneState Call). Hosts u cs y i z) b.was had in
      subst (λ (y : LaneState Call). Hosts u cs y i z) (sym b.now) (reslot u cs i z b.before b.after host' b.same b.less (not_on_way b.after b.given b.decided b.rests))
  helped_other v' helped i z u cs (inr (inr b)) had =
      let host' = subst (λ (y : LaneState Call). Hosts u cs y i z) b.was had in
      subst (λ (y : LaneState Call). Hosts u cs y i z) (sym b.now) (reslot u cs i z b.before b.after host' b.same b.less (not_on_way b.after b.given b.has b.rests))

  pub decided_log : (m : ℕ) (lane : LaneView) (given : AnswerView) (c : Call) (lane' : LaneView) (v' : CoreView) (q : HostedSession) (added : List Record) → p.place ≡ state.UnderWay lane → q.closed ≡ p.closed → q.session ≡ p.session → q.place ≡ state.Decided lane' given
      → IsHistory v' (linearization log ++ added) → (f : Decides (before e.core (linearization log) lane) (after_turn v' added lane') c given.reply) → lane' ≡ at_rest lane
      → HasLog (changed_at e at v' q) (log ++ CallDecided (at + 1) m (f.helped ++ did c given.reply ∷ []) ∷ [])
  decided_log m lane given c lane' v' q added placed closed session place history f rests =
      let k = going lane placed in
      let s = at + 1 in
      let lin = linearization log in
      let all = f.helped ++ did c given.reply ∷ [] in
      let history' : IsHistory v' (lin ++ all) = subst (λ (z : List Record). IsHistory v' (lin ++ z)) f.records history in
      let slot : lane_state e.core s ≡ Busy c = ap (λ (n : ℕ). lane_state e.core n) (sym k.session) ∙ f.own.slot in
      let idle : lane_state v' s ≡ Idle = ap (λ (n : ℕ). lane_state v' n) (sym k.session) ∙ f.slot in
      let own_session : c.session ≡ s = f.own.session ∙ k.session in
      let parts : lin ++ all ≡ (lin ++ f.helped) ++ did c given.reply ∷ [] = sym (append_assoc lin f.helped (did c given.reply ∷ [])) in
      let legal = subst IsLegal parts history'.legal in
      let legal_helped = legal_front (lin ++ f.helped) (did c given.reply ∷ []) legal in
      let split : (i : ℕ) → recorded_in i (lin ++ all) ≡ recorded_in i lin ++ recorded_in i all = λ i. flat_map-append (recorded_by i) lin all in
      let last : (i : ℕ) → recorded_in i (lin ++ all) ≡ recorded_in i (lin ++ f.helped) ++ recorded_in i (did c given.reply ∷ []) = λ i. ap (λ (z : List Record). recorded_in i z) parts ∙ flat_map-append (recorded_by i) (lin ++ f.helped) (did c given.reply ∷ []) in
      let new = number_is_new (lin ++ f.helped) (record { number = c.number; session = c.session; moment = c.moment; request = c.request }) given.reply legal in
      let with_helped : Hosts t (recorded_in s (lin ++ f.helped)) (Busy c) s p =
      subst (λ (z : LaneState Call). Hosts t (recorded_in s (lin ++ f.helped)) z s p) slot (push_others e.core lane.session s t p lin f.helped f.of_others legal_helped host) in
      let recorded_own : Hosts t (recorded_in s (lin ++ all)) (Busy c) s p =
      subst (λ (z : List RepliedCall). Hosts t z (Busy c) s p) (sym (last s ∙ ap (λ (z : List RepliedCall). recorded_in s (lin ++ f.helped) ++ z) (own_record s c given.reply own_session))) (push_own t (lin ++ f.helped) s p c given.reply with_helped new) in
      let x = CallDecided s m all in
      goes_on e log at x v' q h (record {
        is_of = refl;
        within = within;
        history = history';
        joins = f.joins;
        drawn = let d = f.drawn in omega (arith, d);
        joined = let j = f.joined in omega (arith, j);
        opens = refl;
        others = λ i z ne stood'.
            let apart : i + 1 ≢ lane.session = λ n. ne (omega (arith, n, k.session)) in
            let had = push_others e.core lane.session (i + 1) (of_session (i + 1) log) z lin f.helped f.of_others legal_helped (h.each i z stood') in
            let none = others_record (i + 1) c given.reply (λ n. ne (omega (arith, n, own_session))) in
            helped_other v' f.helped (i + 1) z (of_session (i + 1) log) (recorded_in (i + 1) lin ++ recorded_in (i + 1) all) (f.others (i + 1) apart)
            (subst (λ (y : List RepliedCall). Hosts (of_session (i + 1) log) y (lane_state e.core (i + 1)) (i + 1) z)
            (sym (append-nil (recorded_in (i + 1) (lin ++ f.helped))) ∙ ap (λ (y : List RepliedCall). recorded_in (i + 1) (lin ++ f.helped) ++ y) (sym none) ∙ sym (last (i + 1)) ∙ split (i + 1)) had);
        nobody = λ i ne was. (
          elim (f.others i (λ n. ne (n ∙ k.session))) [
            | inl same_slot ↦ same_slot ∙ was
            | inr some ↦ elim some [
              | inl b ↦ absurd (let z : NoLane ≡ Busy b.before = sym was ∙ b.was in cc)
              | inr b ↦ absurd (let z : NoLane ≡ Busy b.before = sym was ∙ b.was in cc)
            ]
          ],
          flat_map-append (recorded_by i) f.helped (did c given.reply ∷ []) ∙ ap (λ (z : List RepliedCall). z ++ recorded_in i (did c given.reply ∷ [])) (none_helped e.core lane.session i f.helped f.of_others was)
              ∙ others_record i c given.reply (λ n. ne (sym n ∙ own_session)),
        );
        own = subst (λ (z : List RepliedCall). Hosts (with_own t x) z (lane_state v' s) s q) (split s) (subst (λ (z : LaneState Call). Hosts (with_own t x) (recorded_in s (lin ++ all)) z s q) (sym idle)
            (subst (λ (z : HostedSession). Hosts (with_own t x) (recorded_in s (lin ++ all)) Idle s z) (hosted_is q session place closed)
            (decided_hosts t (lin ++ all) s m all p lane lane' c given recorded_own placed rests (among_last (did c given.reply) lin f.helped))));
        lawful = walks lane placed;
        pending =
            all_push (IsPending log) f.helped (did c given.reply) (pending_calls log lane.session f.helped (others_calls e log h lane.session f.helped f.of_others))
            (subst (λ (n : ℕ). IsUnanswered (of_session n log) c.number × ((of_session n log).call.moment ≡ c.moment)) (sym own_session) (busy_call e log h s c slot));
        blocked = tt;
        left = omega arith;
      })

  -- ---- a call moves

  pub moved_log : (m : ℕ) (lane lane' : LaneView) (v' : CoreView) (q : HostedSession) (added : List Record) → p.place ≡ state.UnderWay lane → q.closed ≡ p.closed → q.session ≡ p.session → q.place ≡ state.UnderWay lane'
      → IsHistory v' (linearization log ++ added) → (b : MovesBy (before e.core (linearization log) lane) (after_turn v' added lane')) → HasLog (changed_at e at v' q) (log ++ CallMoved (at + 1) m added ∷ [])
  moved_log m lane lane' v' q added placed closed session place history b =
      let k = going lane placed in
      let s = at + 1 in
      let lin = linearization log in
      let c = b.before in
      let d = b.after in
      let slot : lane_state e.core s ≡ Busy c = ap (λ (n : ℕ). lane_state e.core n) (sym k.session) ∙ b.own.slot in
      let now : lane_state v' s ≡ Busy d = ap (λ (n : ℕ). lane_state v' n) (sym k.session) ∙ b.slot.own in
      let place' : q.place ≡ state.UnderWay lane = place ∙ ap (λ (l : LaneView). state.UnderWay l) b.lane in
      let own_session : c.session ≡ s = b.own.session ∙ k.session in
      let x = CallMoved s m added in
      let split : (i : ℕ) → recorded_in i (lin ++ added) ≡ recorded_in i lin ++ recorded_in i added = λ i. flat_map-append (recorded_by i) lin added in
      let nobodys : (i : ℕ) → (i ≡ s → ⊥) → recorded_in i added ≡ [] = λ i ne. elim b.kind [
        | inl g ↦ ap (λ (z : List Record). recorded_in i z) g.1.none
        | inr other ↦ elim other [
          | inl g ↦ ap (λ (z : List Record). recorded_in i z) g.1.records ∙ others_record i c g.0 (λ n. ne (sym n ∙ own_session))
          | inr g ↦ ap (λ (z : List Record). recorded_in i z) g.1.none
        ]
      ] in
      let none : added ≡ [] → Hosts t (recorded_in s (lin ++ added)) (Busy c) s p = λ e'. subst (λ (z : List Record). Hosts t (recorded_in s z) (Busy c) s p) (sym (ap (λ (z : List Record). lin ++ z) e' ∙ append-nil lin)) (busy_host c slot) in
      let recorded : Hosts t (recorded_in s (lin ++ added)) (Busy c) s p = elim b.kind [
        | inl g ↦ none g.1.none
        | inr other ↦ elim other [
          | inl g ↦
              let legal = subst (λ (z : List Record). IsLegal (lin ++ z)) g.1.records history.legal in
              let new = number_is_new lin (record { number = c.number; session = c.session; moment = c.moment; request = c.request }) g.0 legal in
              let busy = busy_host c slot in
              subst (λ (z : List RepliedCall). Hosts t z (Busy c) s p)
              (sym (split s ∙ ap (λ (z : List Record). r ++ recorded_in s z) g.1.records ∙ ap (λ (z : List RepliedCall). r ++ z) (own_record s c g.0 own_session))) (push_own t lin s p c g.0 busy new)
          | inr g ↦ none g.1.none
        ]
      ] in
      let at_call : (u : IsGoing lane (seat (Busy c) s p.session recorded.answered.due t)) → IsUnfinished c → HasMoved c.stage t.call.moves = λ u way. let own : u.call ≡ c = let z : Busy c ≡ Busy u.call = u.slot in cc in subst (λ (y : Call). IsUnfinished y → HasMoved y.stage t.call.moves) own u.walked way in
      let way : (u : IsGoing lane (seat (Busy c) s p.session recorded.answered.due t)) → HasMoved d.stage (t.call.moves + 1) = λ u. elim b.kind [
        | inl g ↦ moved_on c.stage d.stage t.call.moves (at_call u (inl g.0.before)) g.0.walks
        | inr other ↦ elim other [
          | inl g ↦ has_copied d.stage (t.call.moves + 1) g.1.copies (omega arith)
          | inr g ↦ has_copied d.stage (t.call.moves + 1) g.0.after (omega arith)
        ]
      ] in
      goes_on e log at x v' q h (record {
        is_of = refl;
        within = within;
        history = history;
        joins = b.slot.joins;
        drawn = let z = b.slot.drawn in omega (arith, z);
        joined = let z = b.slot.joined in omega (arith, z);
        opens = refl;
        others = λ i z ne stood'. others_same e.core v' (i + 1) added (b.slot.others (i + 1) (λ n. ne (omega (arith, n, k.session)))) (nobodys (i + 1) (λ n. ne (omega (arith, n)))) (of_session (i + 1) log) (recorded_in (i + 1) lin) z (h.each i z stood');
        nobody = λ i ne was. (b.slot.others i (λ z. ne (z ∙ k.session)) ∙ was, nobodys i ne);
        own = subst (λ (z : List RepliedCall). Hosts (with_own t x) z (lane_state v' s) s q) (split s) (subst (λ (z : LaneState Call). Hosts (with_own t x) (recorded_in s (lin ++ added)) z s q) (sym now)
            (subst (λ (z : HostedSession). Hosts (with_own t x) (recorded_in s (lin ++ added)) (Busy d) s z) (hosted_is q session place' closed) (moved_hosts t (recorded_in s (lin ++ added)) s m added p lane c d recorded placed b.same b.less b.some way)));
        lawful = walks lane placed;
        pending =
            elim b.kind [
              | inl g ↦ subst (λ (z : List Record). AllByRecursion (IsPending log) z) (sym g.1.none) tt
              | inr other ↦ elim other [
                | inl g ↦ subst (λ (z : List Record). AllByRecursion (IsPending log) z) (sym g.1.records)
                    (subst (λ (n : ℕ). IsUnanswered (of_session n log) c.number × ((of_session n log).call.moment ≡ c.moment)) (sym own_session) (busy_call e log h s c slot), tt)
                | inr g ↦ subst (λ (z : List Record). AllByRecursion (IsPending log) z) (sym g.1.none) tt
              ]
            ];
        blocked = tt;
        left = omega arith;
      })

  -- ---- steps, beyond the promise

  own_call : (c : Call) → lane_state e.core (at + 1) ≡ Busy c → c.session ≡ at + 1 → (given : Reply) → IsPending log (did c given)
  own_call c slot owner given = subst (λ (n : ℕ). IsUnanswered (of_session n log) c.number × ((of_session n log).call.moment ≡ c.moment)) (sym owner) (busy_call e log h (at + 1) c slot)

  -- a call's resolution has stopped
  has_stopped : (lane : LaneView) (c : Call) (given : Reply) → p.place ≡ state.UnderWay lane → lane_state e.core (at + 1) ≡ Busy c → IsPosition (route_of c.request) c.stage → MayDecide (replay (linearization log)) c.request c.stage → waiting_reply c ≡ None
      → WalkHasStopped (replay (linearization log)) t.call.moves (did c given)
  has_stopped lane c given placed slot position way undecided =
      let k = going lane placed in
      let own : k.call ≡ c = let z : Busy c ≡ Busy k.call = sym slot ∙ k.slot in cc in
      let moved : HasMoved c.stage t.call.moves = subst (λ (y : Call). IsUnfinished y → HasMoved y.stage t.call.moves) own k.walked (inl undecided) in
      stops (replay (linearization log)) (route_of c.request) c.stage t.call.moves position moved way

  pub decided_steady : (lane : LaneView) (given : AnswerView) (c : Call) (lane' : LaneView) (v' : CoreView) (added : List Record) → p.place ≡ state.UnderWay lane
      → (f : Decides (before e.core (linearization log) lane) (after_turn v' added lane') c given.reply) → CarriesCallOut log (at + 1) (f.helped ++ did c given.reply ∷ [])
  decided_steady lane given c lane' v' added placed f =
      let k = going lane placed in
      let slot : lane_state e.core (at + 1) ≡ Busy c = ap (λ (n : ℕ). lane_state e.core n) (sym k.session) ∙ f.own.slot in record {
        own = did c given.reply;
        is_own = own_call c slot (f.own.session ∙ k.session) given.reply;
        stopped = has_stopped lane c given.reply placed slot f.position f.way f.undecided;
        helped = f.helped;
        of_others = others_calls e log h (at + 1) f.helped (subst (λ (n : ℕ). AllByRecursion (IsOfOther e.core n) f.helped) k.session f.of_others);
        rising = f.order.rising;
        records = refl;
        sure = subst (λ (z : List Record). AreSure (linearization log) z) f.records (step_sure (before e.core (linearization log) lane) (after_turn v' added lane') c given.reply f);
      }

  pub moved_steady : (lane lane' : LaneView) (v' : CoreView) (added : List Record) → p.place ≡ state.UnderWay lane → (b : MovesBy (before e.core (linearization log) lane) (after_turn v' added lane'))
      → ((added ≡ []) × ((request : Request) × IsDueTo log (at + 1) request × (is_write request ≡ true → 0 < t.call.moves))) ⊎ ((t.call.moves ≡ 0) × CarriesCallOut log (at + 1) added)
  moved_steady lane lane' v' added placed b =
      let k' = going lane placed in
      let is : IsDueTo log (at + 1) k'.call.request = (host.answered, k'.id, due_asks k'.id k'.call host.answered.due k'.due) in
      let slot' : lane_state e.core (at + 1) ≡ Busy b.before = ap (λ (n : ℕ). lane_state e.core n) (sym k'.session) ∙ b.own.slot in
      let same' : k'.call ≡ b.before = let z : Busy k'.call ≡ Busy b.before = sym k'.slot ∙ slot' in cc in
      elim b.kind [
        | inl g ↦ inl (g.1.none, (k'.call.request, is, λ write. absurd (let z : true ≡ false = sym write ∙ ap (λ (y : Call). is_write y.request) same' ∙ g.0.no_write in cc)))
        | inr other ↦ elim other [
          | inl g ↦
              let k = going lane placed in
              let c = b.before in
              let it = g.1 in
              let slot : lane_state e.core (at + 1) ≡ Busy c = ap (λ (n : ℕ). lane_state e.core n) (sym k.session) ∙ b.own.slot in
              let stopped = has_stopped lane c g.0 placed slot it.position it.way it.undecided in
              inr (
                write_stops (replay (linearization log)) c.request t.call.moves it.write stopped,
                record {
                  own = did c g.0;
                  is_own = own_call c slot (b.own.session ∙ k.session) g.0;
                  stopped = stopped;
                  helped = [];
                  of_others = tt;
                  rising = nothing_rises;
                  records = it.records;
                  sure = it.sure;
                },
              )
          | inr g ↦
              let moved : HasMoved b.before.stage t.call.moves = subst (λ (y : Call). IsUnfinished y → HasMoved y.stage t.call.moves) same' k'.walked (inr g.0.before) in
              inl (g.1.none, (k'.call.request, is, λ write. copies_moved b.before.stage t.call.moves g.0.before moved))
        ]
      ]
