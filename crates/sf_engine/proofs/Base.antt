-- Lemmas about lists, records, hosted sessions and steps.
use Rattle.std.proofs.Common.{◌≡◌, ℕ, ◌+◌, List, Some, Bool, slice_get, slice_set, ◌≢◌, zero, suc, ◌-◌, ◌<◌, ◌≤◌, ◌⊎◌, [], ◌∷◌, ◌++◌, cond, length, refl, ap, sym, ◌∙◌, subst, arith, inl, inr, get_or, length-set, append-nil, None, Option, false, Result, Ok, Err, IfOk, IfErr, OnErr, OnOk, length-append, true, ◌^◌, Vec, Global, take, drop, append_assoc, IfSome, ◌||◌, IsSome, map, ◌↔◌, IsTrue, if◌then◌else◌, add-one}
use Rattle.sf_reply.specs.declared.reply.Reply.{Reply}
use Rattle.sf_call.specs.declared.request.Request.{Request}
use Rattle.sf_call.specs.declared.record.Record.{Record}
use Rattle.sf_call.specs.declared.record.Record.TheVariants.{Did, Left}
use Rattle.sf_session.specs.Sessions.{SessionView, new_session, Begins, EndsBy, LocalPacket, refusal_of, reply_room}
use Rattle.sf_core.specs.Cores.{CoreView, lane_state, joined, new_core, last_number}
use Rattle.sf_engine.specs.declared.hosted.HostedSession.{HostedSession}
use Rattle.sf_engine.specs.declared.hosted.HostedState.{HostedState}
use Rattle.sf_engine.specs.Turns.{Stand, stand, OpenGives, FeedGives, FeedFault, SentGives, SentFault, ReadGives, StepGives, before, after_turn, WritesAnswer, StaysAs, ClosesAt, CloseGives, AddsRecords, finding, GivesAt, PlaceGives, TurnGives, IsHostedState, MayRefuseTurn, is_under_way}
use Rattle.sf_engine.specs.Views.{EngineView}
use Rattle.std.specs.List.{sum_by, AllByRecursion, flat_map, AllZip}
use Rattle.std.proofs.lemmas.Bool.{cases_eq, cases_lt, ne_eqb, eq-eqb}
use Rattle.std.proofs.lemmas.Option.{slice_get_within, get_or_from_slice_get, slice_get_past}
use Rattle.std.proofs.lemmas.List.Sums.{sum_by-set, sum_by-append, sum_by-cons, sum_by_more}
use Rattle.sf_call.specs.declared.call.Call.{Call}
use Rattle.sf_core.specs.Cores.LaneState.{NoLane, Idle, Busy}
use Rattle.sf_core.specs.Progress.{left_of, SameCall, new_call, waiting_reply, bound_of, is_write, IsCopying, MayDecide, did, IsBehind}
use Rattle.sf_core.specs.Histories.{IsHistory}
use Rattle.sf_inode.specs.Stores.{StoreState}
use Rattle.sf_core.specs.Events.{Joins, begun, SessionLeaves, RefusesJoin, IsOfOther, IsFinished, IsHelped, Before, After}
use Rattle.sf_engine.specs.declared.event.Happened.{Happened}
use Rattle.sf_engine.specs.declared.event.EngineFault.{EngineFault}
use Rattle.sf_session.specs.Responses.{transcript, Response, Version, Locally, Refused, ask_behind, packet_for, ByCall, if_so, RepliedCall, recorded_by, recorded_in, calls_answered, answered_in, Due, NothingDue, Unrecorded, Recorded, recorded_due, has_begun, AreAsked, asked_due}
use Rattle.std.proofs.Math.Seq.{drop-append_seam}
use Rattle.std.proofs.lemmas.List.{take-append-drop, flat_map_more, length-take-le, take_more, take_all}
use Rattle.sf_field.specs.Fields.{packet}
use Rattle.sf_wire.specs.Packets.{IsCut, IsBody}
use Rattle.sf_reply.specs.Replies.{reply_body}
use Rattle.sf_call.specs.declared.fault.JoinFault.{JoinFault}
use Rattle.sf_session.specs.declared.asking.Ask.{Ask}
use Rattle.sf_session.specs.Asking.{AsksFor}
use Rattle.sf_core.specs.Lanes.{LaneView, at_rest}
use Rattle.sf_session.proofs.Laws.{begun_push, all_push, begun_is, asked_push, map_push, asked_each}
use Rattle.std.specs.List.Sorted.{IsStrictlySortedBy}
use Rattle.std.specs.Ordering.{nat_cmp}
use Rattle.sf_call.specs.declared.call.Stage.{Stage}
use Rattle.sf_call.specs.Tree.{Tree}
use Rattle.sf_call.specs.Answers.{AnswerView}
use Rattle.sf_call.specs.Histories.{replay, IsAmong, IsLegal, IsLegalAfter, IsNewNumber, MayFollow}
use Rattle.sf_call.specs.Routes.{route_of}
use Rattle.sf_walk.specs.Routes.{IsPosition}
use Rattle.sf_engine.specs.Deciding.{WalkHasStopped, WalkStops, AreSure}
use Rattle.sf_engine.proofs.MovesBy.{MovesBy, moves_by}
use Rattle.sf_engine.proofs.Deciding.{moved_on, stops, step_sure}
use Rattle.sf_session.specs.declared.cause.Cause.TheVariants.{Closed}
use Rattle.sf_engine.specs.declared.event.Event.{Event}
use Rattle.sf_engine.specs.Works.{IsStep, IsWork}
use Rattle.std.specs.Prelude.{nat_eq}
use Rattle.sf_session.specs.declared.cause.Cause.{Cause}
use Rattle.sf_wire.proofs.Laws.{one_packet}
use Rattle.sf_core.specs.Stuck.{steps_left_in, left_below}
use Rattle.sf_core.proofs.Laws.{furthest, one_call, busy_left, idle_left, gone_left, left_stays, goes_falls, writes_falls, copies_falls, fetches_falls, decides_falls}
use Rattle.sf_call.specs.declared.call.Stage.TheVariants as stage
use Rattle.sf_call.specs.declared.request.Request.TheVariants as request
use Rattle.sf_engine.specs.declared.event.EngineFault.TheVariants as fault
use Rattle.sf_engine.specs.declared.event.Event.TheVariants as event
use Rattle.sf_engine.specs.declared.event.Happened.TheVariants as happened
use Rattle.sf_engine.specs.declared.hosted.HostedState.TheVariants as state
use Rattle.sf_session.specs.declared.asking.Ask.TheVariants as ask
use Rattle.sf_wire.specs.declared.cutting.Cut.TheVariants as cut
use Rattle.sf_engine.proofs.Working.{same_work}
use Rattle.sf_engine.specs.HasLog.{replied, IsUnfinished, HasMoved, IsBehindOther}

-- an engine with this core and these hosted sessions
abbrev pub engine : CoreView → List HostedSession → EngineView
engine v hosted = record { core = v; hosted = hosted }

-- a hosted session, by its parts
abbrev pub hosted_session : SessionView → HostedState → Bool → HostedSession
hosted_session x p closed = record { session = x; place = p; closed = closed }

-- A hosted session before and after an event: its index, its number, its states, and the core after
-- the event.
pub record HostedChange : Type 0 where
  pub old : EngineView
  pub at : ℕ
  pub session : ℕ
  pub was : HostedSession
  pub core : CoreView
  pub now : HostedSession
  pub number : at + 1 ≡ session
  pub stood : slice_get old.hosted at ≡ Some was

-- by the core and the hosted sessions before it, and the core and the session after it
abbrev pub change_at : (at : ℕ) {session : ℕ} {was : HostedSession} (v w : CoreView) (hosted : List HostedSession) (now : HostedSession) → at + 1 ≡ session → slice_get hosted at ≡ Some was → HostedChange
change_at at {session = session} {was = was} v w hosted now number stood =
    record { old = engine v hosted; at = at; session = session; was = was; core = w; now = now; number = number; stood = stood }

-- the engine after it
abbrev pub changed : HostedChange → EngineView
changed s = engine s.core (slice_set s.old.hosted s.at s.now)

-- the number of the session, by its place in the list
abbrev pub number : HostedChange → ℕ
number s = s.at + 1

-- the session before the change, and after it
abbrev pub stand_before : HostedChange → Stand
stand_before s = stand s.old.core s.was.session s.was.place

abbrev pub stand_after : HostedChange → Stand
stand_after s = stand s.core s.now.session s.now.place

-- A call, as its record has it.
pub record CalledBy : Type 0 where
  pub number : ℕ
  pub session : ℕ
  pub moment : ℕ
  pub request : Request

-- its record, with this reply
abbrev pub record_of : CalledBy → Reply → Record
record_of c given = Did c.number c.session c.moment c.request given

pub get_set_same : {A : Type 0} (xs : List A) (i : ℕ) (x v : A) → slice_get xs i ≡ Some x → slice_get (slice_set xs i v) i ≡ Some v
get_set_same [] i x v h = cc
get_set_same (y ∷ xs) zero x v h = refl
get_set_same (y ∷ xs) (suc i) x v h = get_set_same xs i x v h

pub get_set_other : {A : Type 0} (xs : List A) (i j : ℕ) (v : A) → (j ≡ i → ⊥) → slice_get (slice_set xs i v) j ≡ slice_get xs j
get_set_other (y ∷ xs) zero zero v ne = absurd (ne refl)
get_set_other (y ∷ xs) (suc i) (suc j) v ne = get_set_other xs i j v (λ e. ne (ap (λ (n : ℕ). suc n) e))
get_set_other _ _ _ v ne = refl

pub set_same : {A : Type 0} → (xs : List A) (i : ℕ) (x : A) → slice_get xs i ≡ Some x → slice_set xs i x ≡ xs
set_same [] i x h = refl
set_same (y ∷ xs) zero x h = cc
set_same (y ∷ xs) (suc i) x h = ap (λ ys. y ∷ ys) (set_same xs i x h)

pub set_twice : {A : Type 0} (xs : List A) (i : ℕ) (x y : A) → slice_set (slice_set xs i x) i y ≡ slice_set xs i y
set_twice [] i x y = refl
set_twice (z ∷ xs) zero x y = refl
set_twice (z ∷ xs) (suc i) x y = ap (λ ys. z ∷ ys) (set_twice xs i x y)

-- an element of a list
pub get_within : {A : Type 0} (xs : List A) (i : ℕ) → i < length xs → (y : A) × (slice_get xs i ≡ Some y)
get_within [] i h = absurd (omega arith)
get_within (x ∷ xs) zero h = (x, refl)
get_within (x ∷ xs) (suc i) h = get_within xs i (omega arith)

pub sum_by_write : {A : Type 0} (f : A → ℕ) (xs : List A) (i : ℕ) (x v : A) → slice_get xs i ≡ Some x → sum_by f (slice_set xs i v) + f x ≡ sum_by f xs + f v
sum_by_write f xs i x v h =
    let at : get_or xs i x ≡ x = get_or_from_slice_get xs i x x h in
    ap (λ y. sum_by f (slice_set xs i v) + f y) (sym at) ∙ sum_by-set f xs i v x (slice_get_within xs i x h)

-- an element of a list with one more: an earlier one, or the last
pub get_push : {A : Type 0} (xs : List A) (j : ℕ) (v s : A) → slice_get (xs ++ v ∷ []) j ≡ Some s → (slice_get xs j ≡ Some s) ⊎ ((j ≡ length xs) × (v ≡ s))
get_push [] zero v s h = inr (refl, cc)
get_push [] (suc j) v s h = cc
get_push (x ∷ xs) zero v s h = inl h
get_push (x ∷ xs) (suc j) v s h = elim (get_push xs j v s h) [ inl e ↦ inl e | inr e ↦ inr (ap (λ (n : ℕ). suc n) e.0, e.1) ]

-- one item more at the end of both lists
pub zip_push : {A B : Type 0} (R : A → B → Type 0) (xs : List A) (ys : List B) (x : A) (y : B) → AllZip R xs ys → R x y → AllZip R (xs ++ x ∷ []) (ys ++ y ∷ [])
zip_push R [] [] x y all is = (is, tt)
zip_push R (a ∷ xs) (b ∷ ys) x y all is = (all.0, zip_push R xs ys x y all.1 is)
zip_push R _ _ x y all is = absurd all

-- opening a session: a new session, or nothing changes
pub record Opens (old new : EngineView) (r : Result ℕ JoinFault) : Type 0 where
  pub ok : IfOk r (λ s. OpenGives old.core old.hosted s new.core new.hosted)
  pub history : OnOk r ((h : List Record) → IsHistory old.core h → IsHistory new.core h)
  pub err : OnErr r ((new.core ≡ old.core) × (new.hosted ≡ old.hosted))
  pub fault : IfErr r (λ f. RefusesJoin old.core f)

-- feeding a hosted session
pub record FeedsHosted (s : HostedChange) (bytes : List ℕ) (r : Result Happened EngineFault) : Type 0 where
  pub core : s.core ≡ s.old.core
  pub ok : IfOk r (λ k. FeedGives s.was bytes k s.now)
  pub err : OnErr r (s.now ≡ s.was)
  pub fault : IfErr r (λ f. FeedFault s.was f)

-- a vector of these bytes
abbrev pub vec_of : {X : Type 0} → Vec X Global → (bytes : List ℕ) → length bytes < 2 ^ 63 → Vec ℕ Global
vec_of v bytes fits = record { ptr = v.ptr; len = length bytes; cap = length bytes; alloc = v.alloc; items = bytes; ok = (refl, omega arith); small = fits }

-- dropping bytes of a hosted session's output
pub record SendsHosted (s : HostedChange) (n : ℕ) (r : Result Happened EngineFault) : Type 0 where
  pub core : s.core ≡ s.old.core
  pub ok : IfOk r (λ k. SentGives s.was n k s.now)
  pub err : OnErr r (s.now ≡ s.was)
  pub fault : IfErr r (λ f. SentFault s.was n f)

pub transcript_push : (answers : List Response) (a : Response) → transcript answers ++ packet_for a ≡ transcript (answers ++ a ∷ [])
unfolding transcript
transcript_push answers a = flat_map_more packet_for [] answers a

-- one more packet in the output
pub output_push : (answers : List Response) (sent output : List ℕ) (a : Response) → transcript answers ≡ sent ++ output → transcript (answers ++ a ∷ []) ≡ sent ++ (output ++ packet_for a)
output_push answers sent output a is = sym (transcript_push answers a) ∙ ap (λ (b : List ℕ). b ++ packet_for a) is ∙ append_assoc sent output (packet_for a)

pub not_on_way : (c : Call) (given : Reply) → waiting_reply c ≡ Some given → c.stage ≡ stage.Fresh → IsUnfinished c → ⊥
not_on_way c given has rests (inl none) = let k : Some given ≡ None = sym has ∙ none in cc
not_on_way c given has rests (inr copies) = subst IsCopying rests copies

pub has_copied : (g : Stage) (moves : ℕ) → IsCopying g → 0 < moves → HasMoved g moves
has_copied (stage.Copies node left) moves copies some = some
has_copied _ moves copies some = absurd copies

pub write_stops : (t : Tree) (q : Request) (moves : ℕ) → is_write q ≡ true → WalkStops t (route_of q) moves → moves ≡ 0
write_stops t (request.Write handle offset bytes) moves e stops = stops
write_stops t _ moves e stops = cc

pub nothing_rises : IsStrictlySortedBy nat_cmp []
unfolding IsStrictlySortedBy
nothing_rises = tt

pub or_true : (c b : Bool) → b ≡ true → (c || b) ≡ true
or_true true b e = refl
or_true false b e = e

pub or_false : (c b : Bool) → b ≡ false → (c || b) ≡ c
or_false true b e = refl
or_false false b e = e

-- a turn of a hosted session: records are added, or nothing changes
pub record TurnsHosted (s : HostedChange) (m : ℕ) (r : Result Happened EngineFault) : Type 0 where
  pub ok : IfOk r (λ k. TurnGives (stand_before s) (finding s.was.closed m) k (stand_after s))
  pub closed : s.now.closed ≡ s.was.closed
  pub err : OnErr r ((s.core ≡ s.old.core) × (s.now ≡ s.was))
  pub fault : IfErr r (λ f. (f ≡ fault.OutOfMemory) × MayRefuseTurn s.was.place)

pub no_step : (ev : Event) (f : EngineFault) (v : CoreView) (h : List Record) → IsStep ev (Err f) v h [] v
no_step event.Open f v h = tt
no_step _ f v h = tt

pub no_work : (ev : Event) (v : CoreView) → IsWork ev v [] v
no_work (event.Turn s m) v = same_work s m v [] v refl
no_work _ v = refl

-- an unchanged hosted session
pub same_engine : (s : HostedChange) → s.core ≡ s.old.core → s.now ≡ s.was → changed s ≡ s.old
same_engine s core now =
    ap (λ (z : CoreView). engine z (slice_set s.old.hosted s.at s.now)) core ∙ ap (λ (z : List HostedSession). engine s.old.core z) (ap (λ (b : HostedSession). slice_set s.old.hosted s.at b) now ∙ set_same s.old.hosted s.at s.was s.stood)

pub is_some_by : (o : Option ℕ) (n : ℕ) → o ≡ Some n → IsSome o
is_some_by o n e = subst IsSome (sym e) refl

-- closing a hosted session
abbrev pub ClosesHosted : HostedChange → Type 0
ClosesHosted s = AddsRecords s.old.core s.core (λ h added. (goes_on : Bool) × CloseGives (stand_before s) added (stand_after s) goes_on × (s.now.closed ≡ (s.was.closed || goes_on)))

-- one more answer
pub answered_push : (answers : List Response) (a : Response) → answered_in (answers ++ a ∷ []) ≡ answered_in answers ++ calls_answered a
answered_push answers a = sym (flat_map_more calls_answered [] answers a)

pub own_record : (c : CalledBy) (given : Reply) → recorded_by c.session (record_of c given) ≡ replied c.number c.request given ∷ []
own_record c given = ap (λ (b : Bool). if_so b (replied c.number c.request given ∷ [])) (eq-eqb c.session c.session refl)

pub all_last : (P : RepliedCall → Type 0) (xs : List RepliedCall) (x : RepliedCall) → AllByRecursion P (xs ++ x ∷ []) → P x
all_last P [] x h = h.0
all_last P (y ∷ xs) x h = all_last P xs x h.1

pub all_so : (P : RepliedCall → Type 0) (b : Bool) (xs ys : List RepliedCall) → AllByRecursion P xs → AllByRecursion P ys → AllByRecursion P (if_so b xs ++ ys)
all_so P false xs ys h k = k
all_so P true xs ys h k = joined xs h
  where
    joined : (xs : List RepliedCall) → AllByRecursion P xs → AllByRecursion P (xs ++ ys)
    joined [] h = k
    joined (x ∷ xs) h = (h.0, joined xs h.1)

-- if no record has the number, no call has it
pub no_call : (n s : ℕ) (h : List Record) → IsNewNumber n h → AllByRecursion (λ (c : RepliedCall). c.number ≢ n) (recorded_in s h)
no_call n s [] new = tt
no_call n s (Did m z k q given ∷ h) new = all_so (λ (c : RepliedCall). c.number ≢ n) (nat_eq z s) (replied m q given ∷ []) (recorded_in s h) (new.0, tt) (no_call n s h new.1)
no_call n s (Left z ∷ h) new = no_call n s h new.1

-- a call is one of these
abbrev pub Has : RepliedCall → List RepliedCall → Type 0
Has x [] = ⊥
Has x (y ∷ ys) = (y ≡ x) ⊎ Has x ys

pub has_back : (x : RepliedCall) (xs ys : List RepliedCall) → Has x ys → Has x (xs ++ ys)
has_back x [] ys h = h
has_back x (y ∷ xs) ys h = inr (has_back x xs ys h)

pub has_front : (x : RepliedCall) (xs ys : List RepliedCall) → Has x xs → Has x (xs ++ ys)
has_front x [] ys h = absurd h
has_front x (y ∷ xs) ys (inl e) = inl e
has_front x (y ∷ xs) ys (inr h) = inr (has_front x xs ys h)

pub has_either : (x : RepliedCall) (xs ys : List RepliedCall) → Has x (xs ++ ys) → Has x xs ⊎ Has x ys
has_either x [] ys h = inr h
has_either x (y ∷ xs) ys (inl e) = inl (inl e)
has_either x (y ∷ xs) ys (inr h) = elim (has_either x xs ys h) [ inl a ↦ inl (inr a) | inr b ↦ inr b ]

pub has_of : (P : RepliedCall → Type 0) (x : RepliedCall) (xs : List RepliedCall) → AllByRecursion P xs → Has x xs → P x
has_of P x [] all h = absurd h
has_of P x (y ∷ xs) all (inl e) = subst P e all.0
has_of P x (y ∷ xs) all (inr h) = has_of P x xs all.1 h

pub one_only : (x y : RepliedCall) → Has x (y ∷ []) → y ≡ x
one_only x y (inl e) = e
one_only x y (inr h) = absurd h

-- the call of a record is one of its session's
pub has_recorded : (c : CalledBy) (given : Reply) (h : List Record) → IsAmong (record_of c given) h → Has (replied c.number c.request given) (recorded_in c.session h)
unfolding IsAmong
has_recorded c given [] k = absurd k
has_recorded c given (x ∷ h) (inl e) =
    let x' = replied c.number c.request given in
    let own : Has x' (recorded_by c.session (record_of c given)) = subst (λ (cs : List RepliedCall). Has x' cs) (sym (own_record c given)) (inl refl) in
    has_front x' (recorded_by c.session x) (recorded_in c.session h) (subst (λ (r : Record). Has x' (recorded_by c.session r)) (sym e) own)
has_recorded c given (x ∷ h) (inr k) = has_back (replied c.number c.request given) (recorded_by c.session x) (recorded_in c.session h) (has_recorded c given h k)

pub last_follows : (before h : List Record) (r : Record) → IsLegalAfter before (h ++ r ∷ []) → MayFollow (before ++ h) r
unfolding IsLegalAfter
last_follows before [] r legal = subst (λ (xs : List Record). MayFollow xs r) (sym (append-nil before)) legal.0
last_follows before (x ∷ h) r legal = subst (λ (xs : List Record). MayFollow xs r) (append_assoc before (x ∷ []) h) (last_follows (before ++ x ∷ []) h r legal.1)

pub front_legal : (before h more : List Record) → IsLegalAfter before (h ++ more) → IsLegalAfter before h
unfolding IsLegalAfter
front_legal before [] more legal = tt
front_legal before (x ∷ h) more legal = (legal.0, front_legal (before ++ x ∷ []) h more legal.1)

pub legal_front : (h more : List Record) → IsLegal (h ++ more) → IsLegal h
unfolding IsLegal
legal_front h more legal = front_legal [] h more legal

pub number_is_new : (h : List Record) (c : CalledBy) (given : Reply) → IsLegal (h ++ record_of c given ∷ []) → IsNewNumber c.number h
unfolding IsLegal
number_is_new h c given legal = let follows = last_follows [] h (record_of c given) legal in follows.new_number

pub among_last : (r : Record) (h more : List Record) → IsAmong r (h ++ (more ++ r ∷ []))
unfolding IsAmong
among_last r [] [] = inl refl
among_last r [] (x ∷ more) = inr (among_last r [] more)
among_last r (x ∷ h) more = inr (among_last r h more)

-- equal bytes with equally many packets have equal packets, and one rest
pub one_rest : (xs ys : List (List ℕ)) (a b : List ℕ) → AllByRecursion IsBody xs → AllByRecursion IsBody ys → length xs ≡ length ys → flat_map packet xs ++ a ≡ flat_map packet ys ++ b → (xs ≡ ys) × (a ≡ b)
one_rest [] [] a b h k same e = (refl, e)
one_rest (x ∷ xs) (y ∷ ys) a b h k same e =
    let front = flat_map packet xs ++ a in
    let back = flat_map packet ys ++ b in
    let parts : packet x ++ front ≡ packet y ++ back = sym (append_assoc (packet x) (flat_map packet xs) a) ∙ e ∙ append_assoc (packet y) (flat_map packet ys) b in
    let first = one_packet x y front back h.0 k.0 parts in
    let rest = one_rest xs ys a b h.1 k.1 (omega (arith, same)) first.1 in
    (ap (λ (z : List ℕ). z ∷ xs) first.0 ∙ ap (λ (zs : List (List ℕ)). y ∷ zs) rest.0, rest.1)
one_rest _ _ a b h k same e = cc

abbrev pub SameSlots : CoreView → CoreView → Type 0
SameSlots v w = (s : ℕ) → lane_state w s ≡ lane_state v s

-- the session's step was blocked, and no lane state is another; or less is left to the calls
abbrev pub StepDoes : CoreView → ℕ → CoreView → Type 0
StepDoes v s w = (SameSlots v w × ((c : Call) → lane_state v s ≡ Busy c → IsBehindOther v c))
    ⊎ ((n : ℕ) → s < n → left_below w n < left_below v n)

-- the steps of sessions up to a number were all blocked, and no lane state is another
abbrev pub AllBlocked : CoreView → ℕ → CoreView → Type 0
AllBlocked v at w = SameSlots v w × ((s : ℕ) (c : Call) → s ≤ at → lane_state v s ≡ Busy c → IsBehindOther v c)

-- the effect of its step on the steps that are left
pub work_on : (e : EngineView) (at : ℕ) (e' e'' : EngineView) → at < length e.hosted → AllBlocked e.core at e'.core ⊎ (left_below e'.core (length e.hosted + 1) < left_below e.core (length e.hosted + 1)) → StepDoes e'.core (at + 1) e''.core
    → AllBlocked e.core (at + 1) e''.core ⊎ (left_below e''.core (length e.hosted + 1) < left_below e.core (length e.hosted + 1))
work_on e at e' e'' within (inl blocked) (inl again) = inl (
  λ s. again.0 s ∙ blocked.0 s,
  λ s c le busy. elim (cases_lt at s) [
    | inl last ↦
        let num : s ≡ at + 1 = omega (arith, last, le) in
        let here : lane_state e'.core (at + 1) ≡ Busy c = sym (ap (λ (n : ℕ). lane_state e'.core n) num) ∙ blocked.0 s ∙ busy in
        let w = again.1 c here in
        record { other = w.other; call = w.call; slot = sym (blocked.0 w.other) ∙ w.slot; deeper = w.deeper }
    | inr before ↦ blocked.1 s c before busy
  ],
)
work_on e at e' e'' within (inl blocked) (inr falls) =
    let less = falls (length e.hosted + 1) (omega (arith, within)) in
    let same = left_stays e.core e'.core (length e.hosted + 1) (λ s. let n = ap steps_left_in (blocked.0 s) in omega (arith, n)) in
    inr (omega (arith, less, same))
work_on e at e' e'' within (inr less) (inl again) =
    let same = left_stays e'.core e''.core (length e.hosted + 1) (λ s. let n = ap steps_left_in (again.0 s) in omega (arith, n)) in
    inr (omega (arith, less, same))
work_on e at e' e'' within (inr less) (inr falls) =
    let more = falls (length e.hosted + 1) (omega (arith, within)) in
    inr (omega (arith, less, more))
