-- Two kept logs of bytes are equal if their events, results and records are.
use Rattle.sf_engine.proofs.Base.{answered_push, one_rest}
use Rattle.std.proofs.Common.{◌≡◌, ℕ, ◌+◌, ◌<◌, ◌⊎◌, List, [], ◌∷◌, ◌++◌, Bool, true, false, Result, Ok, Err, map, refl, ap, sym, ◌∙◌, subst, arith, inl, inr, append-nil, append_assoc, length-append}
use Rattle.std.specs.Prelude.{nat_eq, fold, if◌then◌else◌}
use Rattle.std.specs.List.{AllByRecursion, flat_map}
use Rattle.std.proofs.lemmas.List.{append_cancel_left}
use Rattle.std.proofs.lemmas.List.Elements.{All-append, All-nil, All-same}
use Rattle.sf_field.specs.Fields.{AreBytes, packet}
use Rattle.sf_request.proofs.Laws.{one_question}
use Rattle.sf_request.specs.declared.request.Asked.{Asked}
use Rattle.sf_reply.specs.declared.reply.Reply.{Reply}
use Rattle.sf_call.specs.declared.fault.BeginFault.{BeginFault}
use Rattle.sf_call.specs.declared.fault.BeginFault.TheVariants as begin
use Rattle.sf_call.specs.declared.request.Request.{Request}
use Rattle.sf_call.specs.declared.record.Record.{Record}
use Rattle.sf_call.specs.declared.record.Record.TheVariants.{Left}
use Rattle.sf_session.specs.declared.asking.Ask.{Ask}
use Rattle.sf_session.specs.Asking.{AsksFor, ask_in}
use Rattle.sf_session.specs.Responses.{Response, Version, Locally, ByCall, Refused, ask_behind, AreAsked, RepliedCall, recorded_in, answered_in, Due, asked_due}
use Rattle.sf_session.proofs.Laws.{whole_bytes, rest_bytes, asked_each, map_push}
use Rattle.sf_engine.specs.HasLog.{replied}
use Rattle.sf_engine.specs.declared.event.Event.{Event}
use Rattle.sf_engine.specs.declared.event.Event.TheVariants as event
use Rattle.sf_engine.specs.declared.event.Happened.{Happened}
use Rattle.sf_engine.specs.declared.event.Happened.TheVariants as happened
use Rattle.sf_engine.specs.declared.event.EngineFault.{EngineFault}
use Rattle.sf_engine.specs.Promise.{Entry, SessionOpened, BytesFed, CallBegun, CallMoved, CallBlocked, CallDecided, ReplyWritten, SessionIdle, SessionEnded, SessionClosed, BytesSent, EventRefused, event_of, result_of, added_by, session_of, is_opening, opened_in, begun_in, linearization, SessionLog, with_own, with_next, new_log, of_session, IsKnown, SessionPhase, phase, phase_before, IsLawful, MayWrite, IsAnswered, IsKept, IsOfBytes}
use Rattle.sf_engine.proofs.Appending.{own_push, count_push}

-- ---- an entry, by its event, result and records, its number and its reply

is_some_record : List Record → Bool
is_some_record [] = false
is_some_record (r ∷ rs) = true

abbrev rebuild : Result Happened EngineFault → Event → List Record → ℕ → Response → Entry
rebuild (Err f) ev added n a = EventRefused ev f
rebuild (Ok (happened.Opened s)) ev added n a = SessionOpened s
rebuild (Ok happened.Fed) (event.Feed s bytes) added n a = BytesFed s bytes
rebuild (Ok happened.Begun) (event.Turn s m) added n a = CallBegun s m n
rebuild (Ok happened.Moved) (event.Turn s m) added n a = CallMoved s m added
rebuild (Ok (happened.Blocked holder)) (event.Turn s m) added n a = CallBlocked s m holder
rebuild (Ok happened.Decided) (event.Turn s m) added n a = CallDecided s m added
rebuild (Ok happened.Wrote) (event.Turn s m) added n a = ReplyWritten s m a (is_some_record added)
rebuild (Ok happened.Idle) (event.Turn s m) added n a = SessionIdle s m
rebuild (Ok (happened.Ended c)) (event.Turn s m) added n a = SessionEnded s m c (is_some_record added)
rebuild (Ok happened.Closed) (event.Close s) added n a = SessionClosed s (is_some_record added)
rebuild (Ok happened.Sent) (event.Sent s k) added n a = BytesSent s k
rebuild r ev added n a = SessionOpened 0

abbrev number_of : Entry → ℕ
number_of (CallBegun s m n) = n
number_of _ = 0

abbrev answer_of : Entry → Response
answer_of (ReplyWritten s m a leaves) = a
answer_of _ = Version

leaving_is : (s : ℕ) (leaves : Bool) → is_some_record (if leaves then Left s ∷ [] else []) ≡ leaves
unfolding is_some_record
leaving_is s true = refl
leaving_is s false = refl

rebuilt : (x : Entry) → rebuild (result_of x) (event_of x) (added_by x) (number_of x) (answer_of x) ≡ x
rebuilt (ReplyWritten s m a leaves) = ap (λ (b : Bool). ReplyWritten s m a b) (leaving_is s leaves)
rebuilt (SessionEnded s m c leaves) = ap (λ (b : Bool). SessionEnded s m c b) (leaving_is s leaves)
rebuilt (SessionClosed s leaves) = ap (λ (b : Bool). SessionClosed s b) (leaving_is s leaves)
rebuilt _ = refl

-- the number of the call that begins
abbrev number_by : Result Happened EngineFault → ℕ → ℕ
number_by (Ok happened.Begun) n = n + 1
number_by _ n = 0

number_is : (front : List Entry) (x : Entry) → IsLawful front x → number_of x ≡ number_by (result_of x) (begun_in front)
number_is front (CallBegun s m n) h = h.1
number_is front _ h = refl

-- an entry that wrote a reply, or another one
record HasWritten (x : Entry) : Type 0 where
  session : ℕ
  moment : ℕ
  answer : Response
  leaves : Bool
  is : x ≡ ReplyWritten session moment answer leaves

has_written : (x : Entry) → HasWritten x ⊎ ((result_of x ≡ Ok happened.Wrote → ⊥) × (answer_of x ≡ Version))
has_written (ReplyWritten s m a leaves) = inl (record { session = s; moment = m; answer = a; leaves = leaves; is = refl })
has_written _ = inr (λ e. cc, refl)

-- ---- one reply

one_ask : (begun : Bool) (body : List ℕ) (a b : Ask) → AreBytes body → AsksFor begun body a → AsksFor begun body b → a ≡ b
one_ask begun body a b bytes h k = h.2 ∙ ap (λ (z : Asked). ask_in begun z) (one_question body h.0 k.0 bytes h.1 k.1) ∙ sym k.2

first_bytes : (body : List ℕ) (bodies : List (List ℕ)) (rest : List ℕ) → AreBytes (flat_map packet (body ∷ bodies) ++ rest) → AreBytes (packet body ++ (flat_map packet bodies ++ rest))
first_bytes body bodies rest bytes = All-same (λ c. c < 256) (packet body ++ (flat_map packet bodies ++ rest)) (flat_map packet (body ∷ bodies) ++ rest) (sym (append_assoc (packet body) (flat_map packet bodies) rest)) bytes

last_ask : (begun : Bool) (bodies : List (List ℕ)) (asks : List Ask) (a b : Ask) (rest : List ℕ) → AreBytes (flat_map packet bodies ++ rest) → AreAsked begun bodies (asks ++ a ∷ []) → AreAsked begun bodies (asks ++ b ∷ []) → a ≡ b
unfolding AreAsked
last_ask begun [] asks a b rest bytes h k = absurd (omega (arith, asked_each begun [] (asks ++ a ∷ []) h, length-append asks (a ∷ [])))
last_ask begun (body ∷ bodies) [] a b rest bytes h k = one_ask begun body a b (whole_bytes body (flat_map packet bodies ++ rest) (first_bytes body bodies rest bytes)) h.0 k.0
last_ask begun (body ∷ bodies) (z ∷ asks) a b rest bytes h k = last_ask true bodies asks a b rest (rest_bytes body (flat_map packet bodies ++ rest) (first_bytes body bodies rest bytes)) h.1 k.1

one_fault : (front : List Entry) (s id : ℕ) (r r' : Request) (f g : BeginFault) → MayWrite front s (Refused id r f) → MayWrite front s (Refused id r' g) → f ≡ g
one_fault front s id r r' begin.OutOfMemory begin.OutOfMemory h k = refl
one_fault front s id r r' begin.NumbersSpent begin.NumbersSpent h k = refl
one_fault front s id r r' _ _ h k = absurd (omega (arith, h, k))

one_call : (x y : RepliedCall) → x ∷ [] ≡ y ∷ [] → x ≡ y
one_call x y e = cc

one_answer : (front : List Entry) (s : ℕ) (c : SessionPhase) (a b : Response) → c ≡ phase_before a → c ≡ phase_before b → MayWrite front s a → MayWrite front s b → ask_behind a ≡ ask_behind b → a ≡ b
one_answer front s c Version Version at at' h k e = refl
one_answer front s c (Locally id r) (Locally id' r') at at' h k e = cc
one_answer front s c (ByCall id n q r) (ByCall id' n' q' r') at at' h k e =
    let calls = answered_in (of_session s front).wrote in
    let same = one_call (replied n q r) (replied n' q' r') (append_cancel_left calls (replied n q r ∷ []) (replied n' q' r' ∷ []) (sym (h ∙ answered_push (of_session s front).wrote (ByCall id n q r)) ∙ k ∙ answered_push (of_session s front).wrote (ByCall id' n' q' r'))) in
    let ids : id ≡ id' = cc in
    ap (λ (z : RepliedCall). ByCall id z.number z.request z.reply) same ∙ ap (λ (i : ℕ). ByCall i n' q' r') ids
one_answer front s c (Refused id q f) (Refused id' q' g) at at' h k e =
    let faults : f ≡ g = one_fault front s id q q' f g h k in
    let ids : id ≡ id' = cc in
    let requests : q ≡ q' = cc in
    ap (λ (i : ℕ). Refused i q f) ids ∙ ap (λ (z : Request). Refused id' z f) requests ∙ ap (λ (z : BeginFault). Refused id' q' z) faults
one_answer front s c _ _ at at' h k e = cc

-- ---- fed bytes are bytes

own_bytes : (x : Entry) (t : SessionLog) → IsOfBytes x → AreBytes t.fed → AreBytes (with_own t x).fed
own_bytes (BytesFed s bytes) t of h = All-append (λ b. b < 256) t.fed bytes.items h of
own_bytes _ t of h = h

so_bytes : (b : Bool) (x : Entry) (t : SessionLog) → IsOfBytes x → AreBytes t.fed → AreBytes (if b then with_own t x else t).fed
so_bytes true x t of h = own_bytes x t of h
so_bytes false x t of h = h

fold_bytes : (s : ℕ) (log : List Entry) (t : SessionLog) → AllByRecursion IsOfBytes log → AreBytes t.fed → AreBytes (fold (with_next s) t log).fed
fold_bytes s [] t of h = h
fold_bytes s (x ∷ log) t of h = fold_bytes s log (with_next s t x) of.1 (so_bytes (nat_eq (session_of x) s) x t of.0 h)

all_push : (log : List Entry) (x : Entry) → AllByRecursion IsOfBytes log → IsOfBytes x → AllByRecursion IsOfBytes (log ++ x ∷ [])
all_push [] x all of = (of, tt)
all_push (y ∷ log) x all of = (all.0, all_push log x all.1 of)

-- ---- the next entry

-- an entry after others
record Next (front : List Entry) (x : Entry) : Type 0 where
  lawful : IsLawful front x
  answered : (s : ℕ) → IsKnown (front ++ x ∷ []) s → IsAnswered (of_session s (front ++ x ∷ [])) (recorded_in s (linearization (front ++ x ∷ [])))

known_more : (front : List Entry) (x : Entry) (s : ℕ) → IsKnown front s → IsKnown (front ++ x ∷ []) s
known_more front x s known = (known.0, let count = count_push is_opening front x in omega (arith, known.1, count))

one_written : (front : List Entry) (s m m' : ℕ) (a b : Response) (l l' : Bool) → AllByRecursion IsOfBytes front → Next front (ReplyWritten s m a l) → Next front (ReplyWritten s m' b l') → a ≡ b
one_written front s m m' a b l l' of x y =
    let t = of_session s front in
    let known = x.lawful.0.0 in
    let p = subst (λ (u : SessionLog). IsAnswered u (recorded_in s (linearization (front ++ ReplyWritten s m a l ∷ [])))) (own_push s front (ReplyWritten s m a l) refl) (x.answered s (known_more front (ReplyWritten s m a l) s known)) in
    let q = subst (λ (u : SessionLog). IsAnswered u (recorded_in s (linearization (front ++ ReplyWritten s m' b l' ∷ [])))) (own_push s front (ReplyWritten s m' b l') refl) (y.answered s (known_more front (ReplyWritten s m' b l') s known)) in
    let asks = map ask_behind t.wrote in
    let pa : AreAsked false p.bodies (asks ++ ask_behind a ∷ []) = subst (λ (zs : List Ask). AreAsked false p.bodies zs) (ap (λ (d : Due). map ask_behind (t.wrote ++ a ∷ []) ++ asked_due d) p.after_last ∙ append-nil (map ask_behind (t.wrote ++ a ∷ [])) ∙ map_push t.wrote a) p.asked in
    let qa : AreAsked false q.bodies (asks ++ ask_behind b ∷ []) = subst (λ (zs : List Ask). AreAsked false q.bodies zs) (ap (λ (d : Due). map ask_behind (t.wrote ++ b ∷ []) ++ asked_due d) q.after_last ∙ append-nil (map ask_behind (t.wrote ++ b ∷ [])) ∙ map_push t.wrote b) q.asked in
    let pn = asked_each false p.bodies (asks ++ ask_behind a ∷ []) pa in
    let qn = asked_each false q.bodies (asks ++ ask_behind b ∷ []) qa in
    let la = length-append asks (ask_behind a ∷ []) in
    let lb = length-append asks (ask_behind b ∷ []) in
    let same : q.bodies ≡ p.bodies = (one_rest q.bodies p.bodies q.rest p.rest q.are_bodies p.are_bodies (omega (arith, pn, qn, la, lb)) (sym q.fed ∙ p.fed)).0 in
    let bytes : AreBytes (flat_map packet p.bodies ++ p.rest) = All-same (λ c. c < 256) (flat_map packet p.bodies ++ p.rest) t.fed (sym p.fed) (fold_bytes s front new_log of (All-nil (λ c. c < 256))) in
    one_answer front s (phase t) a b x.lawful.0.1 y.lawful.0.1 x.lawful.1 y.lawful.1
    (last_ask false p.bodies asks (ask_behind a) (ask_behind b) p.rest bytes pa (subst (λ (zs : List (List ℕ)). AreAsked false zs (asks ++ ask_behind b ∷ [])) same qa))

one_next : (front : List Entry) (x y : Entry) → AllByRecursion IsOfBytes front → Next front x → Next front y → event_of x ≡ event_of y → result_of x ≡ result_of y → added_by x ≡ added_by y → x ≡ y
one_next front x y of p q events results added =
    let numbers : number_of x ≡ number_of y = number_is front x p.lawful ∙ ap (λ (r : Result Happened EngineFault). number_by r (begun_in front)) results ∙ sym (number_is front y q.lawful) in
    let answers : answer_of x ≡ answer_of y = elim (has_written x) [
      | inl w ↦ elim (has_written y) [
        | inl v ↦
            let xs = subst (λ (z : Entry). Next front z) w.is p in
            let ys = subst (λ (z : Entry). Next front z) v.is q in
            let evs : event.Turn w.session w.moment ≡ event.Turn v.session v.moment = ap event_of (sym w.is) ∙ events ∙ ap event_of v.is in
            let sessions : v.session ≡ w.session = cc in
            ap answer_of w.is ∙ one_written front w.session w.moment v.moment w.answer v.answer w.leaves v.leaves of xs (subst (λ (s : ℕ). Next front (ReplyWritten s v.moment v.answer v.leaves)) sessions ys) ∙ ap answer_of (sym v.is)
        | inr v ↦ absurd (v.0 (sym results ∙ ap result_of w.is))
      ]
      | inr w ↦ elim (has_written y) [
        | inl v ↦ absurd (w.0 (results ∙ ap result_of v.is))
        | inr v ↦ w.1 ∙ sym v.1
      ]
    ] in
    sym (rebuilt x)
    ∙ ap (λ (r : Result Happened EngineFault). rebuild r (event_of x) (added_by x) (number_of x) (answer_of x)) results
    ∙ ap (λ (ev : Event). rebuild (result_of y) ev (added_by x) (number_of x) (answer_of x)) events
    ∙ ap (λ (rs : List Record). rebuild (result_of y) (event_of y) rs (number_of x) (answer_of x)) added
    ∙ ap (λ (n : ℕ). rebuild (result_of y) (event_of y) (added_by y) n (answer_of x)) numbers
    ∙ ap (λ (a : Response). rebuild (result_of y) (event_of y) (added_by y) (number_of y) a) answers
    ∙ rebuilt y

next_of : (front rest : List Entry) (x : Entry) → IsKept (front ++ (x ∷ rest)) → Next front x
next_of front rest x kept = record {
  lawful = kept.lawful front rest x refl;
  answered = λ s known. kept.linearizable.answered (front ++ x ∷ []) rest (sym (append_assoc front (x ∷ []) rest)) s known;
}

same_from : (front rest rest' : List Entry) → IsKept (front ++ rest) → IsKept (front ++ rest') → AllByRecursion IsOfBytes front → AllByRecursion IsOfBytes rest → map event_of rest ≡ map event_of rest' → map result_of rest ≡ map result_of rest' → map added_by rest ≡ map added_by rest' → rest ≡ rest'
same_from front [] [] kept kept' of all events results added = refl
same_from front (x ∷ rest) (y ∷ rest') kept kept' of all events results added =
    let ev : event_of x ≡ event_of y = cc in
    let r : result_of x ≡ result_of y = cc in
    let rs : added_by x ≡ added_by y = cc in
    let evs : map event_of rest ≡ map event_of rest' = cc in
    let results' : map result_of rest ≡ map result_of rest' = cc in
    let added' : map added_by rest ≡ map added_by rest' = cc in
    let one = one_next front x y of (next_of front rest x kept) (next_of front rest' y kept') ev r rs in
    let k : IsKept ((front ++ x ∷ []) ++ rest) = subst IsKept (sym (append_assoc front (x ∷ []) rest)) kept in
    let k' : IsKept ((front ++ x ∷ []) ++ rest') = subst (λ (z : Entry). IsKept ((front ++ z ∷ []) ++ rest')) (sym one) (subst IsKept (sym (append_assoc front (y ∷ []) rest')) kept') in
    ap (λ (z : Entry). z ∷ rest) one ∙ ap (λ (zs : List Entry). y ∷ zs) (same_from (front ++ x ∷ []) rest rest' k k' (all_push front x of all.0) all.1 evs results' added')
same_from front _ _ kept kept' of all events results added = cc

pub same_logs : (log log' : List Entry) → IsKept log → IsKept log' → AllByRecursion IsOfBytes log → map event_of log ≡ map event_of log' → map result_of log ≡ map result_of log' → map added_by log ≡ map added_by log' → log ≡ log'
same_logs log log' kept kept' all events results added = same_from [] log log' kept kept' tt all events results added
