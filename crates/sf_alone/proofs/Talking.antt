-- Serving a single stream yields a conversation.
use Rattle.std.proofs.Common.{◌≡◌, ◌⊎◌, ◌<◌, ◌≤◌, ℕ, ◌+◌, ◌-◌, List, [], ◌∷◌, ◌++◌, Some, Bool, true, false, cond, length, map, slice_get, Result, Ok, Err, refl, ap, sym, ◌∙◌, subst, inl, inr, arith, append-nil, append_assoc, length-append}
use Rattle.std.specs.Prelude.{if◌then◌else◌, IfOk, IfErr}
use Rattle.std.specs.List.{AllByRecursion, flat_map}
use Rattle.std.proofs.KnownBytes.{Appends-nil, Consumes-nil}
use Rattle.std.proofs.lemmas.Bool.{cases_eq}
use Rattle.std.proofs.lemmas.Grind.{flat_map-append}
use Rattle.std.proofs.lemmas.List.Sums.{sum_by-append}
use Rattle.sf_field.specs.Fields.{packet}
use Rattle.sf_wire.specs.Packets.{IsBody}
use Rattle.sf_call.specs.declared.fault.BeginFault.TheVariants as begin
use Rattle.sf_call.specs.declared.record.Record.{Record}
use Rattle.sf_call.specs.declared.record.Record.TheVariants.{Did, Left}
use Rattle.sf_call.specs.Histories.{IsLegal, IsLegalAfter}
use Rattle.sf_session.specs.declared.asking.Ask.{Ask}
use Rattle.sf_session.specs.declared.cause.Cause.{Cause}
use Rattle.sf_session.specs.declared.fault.ServeFault.{ServeFault}
use Rattle.sf_session.specs.Conversation.{IsBy, IsFair, IsAtItsTime, IsSubsequence, IsConversation}
use Rattle.sf_session.specs.Responses.{Response, Refused, ask_behind, transcript, AreAsked, recorded_in, answered_in, Due, NothingDue, asked_due, recorded_due}
use Rattle.sf_session.specs.SessionStates.{pending}
use Rattle.sf_session.proofs.Laws.{all_push}
use Rattle.sf_engine.specs.Promise.{Entry, SessionOpened, CallBegun, CallMoved, CallDecided, ReplyWritten, EventRefused, event_of, result_of, session_of, leaves_by, calls_by, added_by, is_beginning, begun_in, linearization, CallLog, SessionLog, of_session, IsPending, IsAnswered, IsKept, IsLawful, MayWrite}
use Rattle.sf_engine.specs.HasLog.{HasLog}
use Rattle.sf_engine.proofs.Laws.{own_push, other_push, count_push, order_push}
use Rattle.sf_connection.specs.Progress.{Progress, IsServed}
use Rattle.sf_connection.proofs.Laws.{none_written}
use Rattle.sf_connection.specs.Connections.{HasPassed}
use Rattle.sf_alone.proofs.Entries.{all_join}
use Rattle.sf_alone.specs.OnEngine.{IoState, IsEntryOf, IsTimed, AreTimed, IsTold, since_at, ServesLine, StopsEarly}
use Rattle.sf_alone.specs.Talks.{TalkView, talk_view, Passes, ConversesTo}
use Rattle.sf_alone.proofs.Turning.{after}

-- ---- no conversation

nothing_legal : IsLegal []
unfolding IsLegal IsLegalAfter
nothing_legal = tt

nothing_asked : AreAsked false [] []
unfolding AreAsked
nothing_asked = tt

no_times : (moments : List ℕ) → IsSubsequence [] moments
unfolding IsSubsequence
no_times moments = tt

nothing_said : IsConversation [] [] []
nothing_said = record {
  session = 1;
  history = [];
  bodies = [];
  rest = [];
  answers = [];
  due = NothingDue;
  unsent = [];
  are_bodies = tt;
  read = refl;
  asked = nothing_asked;
  written = none_written;
  legal = nothing_legal;
  alone = tt;
  calls = refl;
  times = [];
  told = no_times [];
  timed = tt;
  fair = tt;
}

-- what a stream and a clock expose
abbrev pub talk_of : IoState → TalkView
talk_of x = talk_view x.stream.incoming x.told x.stream.outgoing

-- nothing was read and written
pub says_nothing : (start now : TalkView) → now ≡ start → (read moments written : List ℕ) × Passes start now read moments written × IsConversation read moments written
says_nothing start now e =
    ([], [], [], subst (λ (z : TalkView). Passes start z [] [] []) (sym e) (record { was_read = Consumes-nil start.incoming; was_told = Appends-nil start.told; was_written = Appends-nil start.outgoing }), nothing_said)

-- ---- timestamps

abbrev times_by : Entry → List ℕ
times_by (CallBegun s m n) = m ∷ []
times_by _ = []

-- the timestamps at which calls began
abbrev times_in : List Entry → List ℕ
times_in log = flat_map times_by log

-- an event in which no call began, or one at a timestamp read from the clock
timed_one : (x : Entry) (now : List ℕ) → IsTimed (event_of x) (result_of x) now → (times_by x ≡ []) ⊎ ((m : ℕ) × (times_by x ≡ m ∷ []) × (now ≡ m ∷ []))
timed_one (CallBegun s m n) now is = elim is [ inl e ↦ inr (m, refl, e) | inr none ↦ absurd (none.1 refl) ]
timed_one x now is = inl refl

part_behind : (now xs later : List ℕ) → IsSubsequence xs later → IsSubsequence xs (now ++ later)
unfolding IsSubsequence
part_behind now [] later part = tt
part_behind now (x ∷ xs) later part =
    (now ++ part.0, part.1, ap (λ (ys : List ℕ). now ++ ys) part.2 ∙ sym (append_assoc now part.0 (x ∷ part.1)), part.3)

part_next : (m : ℕ) (xs later : List ℕ) → IsSubsequence xs later → IsSubsequence (m ∷ xs) (m ∷ later)
unfolding IsSubsequence
part_next m xs later part = ([], later, refl, part)

-- the timestamps at which calls began are a subsequence of those read
timed_part : (entries : List Entry) (moments : List ℕ) → AreTimed entries moments → IsSubsequence (times_in entries) moments
unfolding AreTimed
timed_part [] moments timed = no_times moments
timed_part (x ∷ entries) moments timed =
    let now = timed.0 in
    let later = timed.1 in
    let times = times_in entries in
    let rest = timed_part entries later timed.4 in
    subst (λ (ms : List ℕ). IsSubsequence (times_by x ++ times) ms) (sym timed.2) (elim (timed_one x now timed.3) [
      | inl none ↦ subst (λ (xs : List ℕ). IsSubsequence (xs ++ times) (now ++ later)) (sym none) (part_behind now times later rest)
      | inr one ↦
          subst (λ (xs : List ℕ). IsSubsequence (xs ++ times) (now ++ later)) (sym one.1) (subst (λ (xs : List ℕ). IsSubsequence (one.0 ∷ times) (xs ++ later)) (sym one.2) (part_next one.0 times later rest))
    ])

-- ---- a log of one session

all_map : {A : Type 0} (P Q : A → Type 0) (xs : List A) → ((x : A) → P x → Q x) → AllByRecursion P xs → AllByRecursion Q xs
all_map P Q [] f h = tt
all_map P Q (x ∷ xs) f h = (f x h.0, all_map P Q xs f h.1)

got_behind : (xs ys : List ℕ) (m : ℕ) → slice_get (xs ++ m ∷ ys) (length xs) ≡ Some m
got_behind [] ys m = refl
got_behind (x ∷ xs) ys m = got_behind xs ys m

-- a refusal is fair, if the number of calls that had begun is at most `n`
fair_of : (front : List Entry) (s n : ℕ) (a : Response) → begun_in front ≤ n → MayWrite front s a → IsFair n a
fair_of front s n (Refused id q begin.NumbersSpent) le may = omega (arith, le, may)
fair_of front s n a le may = tt

module _ (s : ℕ) (pos : 0 < s) (whole : List Entry) (kept : IsKept whole) where
  -- the call's timestamp is that with its number
  abbrev HasTime : CallLog → Type 0
  HasTime c = (0 < c.number) × (slice_get (times_in whole) (c.number - 1) ≡ Some c.moment)

  -- a record of the session, at its time
  abbrev IsOwn : Record → Type 0
  IsOwn r = IsBy s r × IsAtItsTime (times_in whole) r

  -- the log so far is of the session alone
  record IsAlone (front : List Entry) : Type 0 where
    begun : (of_session s front).begun ≡ begun_in front
    count : length (times_in front) ≡ begun_in front
    time : 0 < (of_session s front).begun → HasTime (of_session s front).call
    others : (z : ℕ) → (z ≡ s → ⊥) → (of_session z front).begun ≡ 0
    history : AllByRecursion IsOwn (linearization front)
    fair : AllByRecursion (IsFair (begun_in whole)) (of_session s front).wrote

  part_own : (front : List Entry) (x : Entry) → IsEntryOf s x → of_session s (front ++ x ∷ []) ≡ after (of_session s front) x
  part_own front (EventRefused ev f) own = other_push s front (EventRefused ev f) (λ z. omega (arith, z, pos))
  part_own front (SessionOpened z) own = own_push s front (SessionOpened z) cc
  part_own front x own = own_push s front x own

  begun_other : (front : List Entry) (x : Entry) (z : ℕ) → IsEntryOf s x → (z ≡ s → ⊥) → (of_session z (front ++ x ∷ [])).begun ≡ (of_session z front).begun
  begun_other front (EventRefused ev f) z own ne = elim (cases_eq 0 z) [
    | inl e ↦ ap (λ (l : SessionLog). l.begun) (own_push z front (EventRefused ev f) e)
    | inr other ↦ ap (λ (l : SessionLog). l.begun) (other_push z front (EventRefused ev f) other)
  ]
  begun_other front (SessionOpened y) z own ne = let own' : y ≡ s = cc in ap (λ (l : SessionLog). l.begun) (other_push z front (SessionOpened y) (λ e. ne (sym e ∙ own')))
  begun_other front x z own ne = ap (λ (l : SessionLog). l.begun) (other_push z front x (λ e. ne (sym e ∙ own)))

  begun_after : (l : SessionLog) (x : Entry) → (after l x).begun ≡ l.begun + cond (is_beginning x) 1 0
  begun_after l (CallBegun z m n) = refl
  begun_after l x = omega arith

  count_by_one : (x : Entry) → length (times_by x) ≡ cond (is_beginning x) 1 0
  count_by_one (CallBegun z m n) = refl
  count_by_one x = refl

  time_after : (front : List Entry) (x : Entry) (rest : List Entry) → whole ≡ front ++ x ∷ rest → IsLawful front x → IsAlone front → 0 < (after (of_session s front) x).begun → HasTime (after (of_session s front) x).call
  time_after front (CallBegun z m n) rest same lawful h some =
      let times : times_in whole ≡ times_in front ++ m ∷ times_in rest = ap times_in same ∙ flat_map-append times_by front (CallBegun z m n ∷ rest) in
      let at : n - 1 ≡ length (times_in front) = omega (arith, lawful.1, h.count) in
      (omega (arith, lawful.1), ap (λ (i : ℕ). slice_get (times_in whole) i) at ∙ ap (λ (ts : List ℕ). slice_get ts (length (times_in front))) times ∙ got_behind (times_in front) (times_in rest) m)
  time_after front x rest same lawful h some = h.time some

  pending_own : (front : List Entry) → IsAlone front → (r : Record) → IsPending front r → IsOwn r
  pending_own front h (Did n z m q given) p = elim (cases_eq z s) [
    | inl e ↦
        let mine = subst (λ (k : ℕ). IsPending front (Did n k m q given)) e p in
        let time = h.time (omega (arith, mine.0.1)) in
        (e, subst (λ (k : ℕ). (0 < k) × (slice_get (times_in whole) (k - 1) ≡ Some m)) mine.0.0 (time.0, time.1 ∙ ap (λ (k : ℕ). Some k) mine.1))
    | inr ne ↦ absurd (omega (arith, p.0.1, h.others z ne))
  ]
  pending_own front h (Left z) p = absurd p

  left_own : (x : Entry) → IsEntryOf s x → AllByRecursion IsOwn (if leaves_by x then Left (session_of x) ∷ [] else [])
  left_own (EventRefused ev f) own = tt
  left_own (SessionOpened z) own = tt
  left_own x own = leaving (leaves_by x) (session_of x) own
    where
      leaving : (b : Bool) (z : ℕ) → z ≡ s → AllByRecursion IsOwn (if b then Left z ∷ [] else [])
      leaving true z e = ((e, tt), tt)
      leaving false z e = tt

  added_own : (front : List Entry) (x : Entry) → IsAlone front → IsEntryOf s x → AllByRecursion (IsPending front) (calls_by x) → AllByRecursion IsOwn (added_by x)
  added_own front (CallMoved z m added) h own calls = all_map (IsPending front) IsOwn added (pending_own front h) calls
  added_own front (CallDecided z m added) h own calls = all_map (IsPending front) IsOwn added (pending_own front h) calls
  added_own front x h own calls = left_own x own

  fair_after : (front : List Entry) (x : Entry) → begun_in front ≤ begun_in whole → IsLawful front x → AllByRecursion (IsFair (begun_in whole)) (of_session s front).wrote → AllByRecursion (IsFair (begun_in whole)) (after (of_session s front) x).wrote
  fair_after front (ReplyWritten z m a leaves) le lawful h = all_push (IsFair (begun_in whole)) (of_session s front).wrote a h (fair_of front z (begun_in whole) a le lawful.1)
  fair_after front x le lawful h = h

  alone_next : (front : List Entry) (x : Entry) (rest : List Entry) → whole ≡ front ++ x ∷ rest → IsEntryOf s x → IsAlone front → IsAlone (front ++ x ∷ [])
  alone_next front x rest same own h =
      let l = of_session s front in
      let part = part_own front x own in
      let lawful = kept.lawful front rest x same in
      let few : begun_in front ≤ begun_in whole = omega (arith, ap begun_in same, sum_by-append (λ (y : Entry). cond (is_beginning y) 1 0) front (x ∷ rest)) in
      let calls = kept.linearizable.pending front rest x same in
      let times : times_in (front ++ x ∷ []) ≡ times_in front ++ (times_by x ++ []) = flat_map-append times_by front (x ∷ []) in
      record {
        begun = omega (arith, h.begun, ap (λ (z : SessionLog). z.begun) part, begun_after l x, count_push is_beginning front x);
        count = omega (arith, h.count, ap (λ (ts : List ℕ). length ts) times, length-append (times_in front) (times_by x ++ []), length-append (times_by x) [], count_by_one x, count_push is_beginning front x);
        time = subst (λ (z : SessionLog). 0 < z.begun → HasTime z.call) (sym part) (time_after front x rest same lawful h);
        others = λ z ne. begun_other front x z own ne ∙ h.others z ne;
        history = subst (λ (rs : List Record). AllByRecursion IsOwn rs) (sym (order_push front x)) (all_join IsOwn (linearization front) (added_by x) h.history (added_own front x h own calls));
        fair = subst (λ (z : SessionLog). AllByRecursion (IsFair (begun_in whole)) z.wrote) (sym part) (fair_after front x few lawful h.fair);
      }

  alone_all : (front rest : List Entry) → whole ≡ front ++ rest → AllByRecursion (IsEntryOf s) rest → IsAlone front → IsAlone whole
  alone_all front [] same own h = subst (λ (l : List Entry). IsAlone l) (sym (same ∙ append-nil front)) h
  alone_all front (x ∷ rest) same own h = alone_all (front ++ x ∷ []) rest (same ∙ sym (append_assoc front (x ∷ []) rest)) own.1 (alone_next front x rest same own.0 h)

  alone_none : IsAlone []
  alone_none = record { begun = refl; count = refl; time = λ some. absurd (omega (arith, some)); others = λ z ne. refl; history = tt; fair = tt }

  -- what was read and is due
  record Parts (input : List ℕ) : Type 0 where
    bodies : List (List ℕ)
    rest : List ℕ
    due : Due
    are_bodies : AllByRecursion IsBody bodies
    read : input ≡ flat_map packet bodies ++ rest
    asked : AreAsked false bodies (map ask_behind (of_session s whole).wrote ++ asked_due due)
    calls : recorded_in s (linearization whole) ≡ answered_in (of_session s whole).wrote ++ recorded_due due
    begun : (of_session s whole).begun ≡ length (answered_in (of_session s whole).wrote) + length (asked_due due)

  abbrev conversation : AllByRecursion (IsEntryOf s) whole → (input moments output unsent : List ℕ) → (g : Parts input) → transcript (of_session s whole).wrote ≡ output ++ unsent → AreTimed whole moments → IsConversation input moments output
  conversation own input moments output unsent g written timed =
      let it = alone_all [] whole refl own alone_none in
      record {
        session = s;
        history = linearization whole;
        bodies = g.bodies;
        rest = g.rest;
        answers = (of_session s whole).wrote;
        due = g.due;
        unsent = unsent;
        are_bodies = g.are_bodies;
        read = g.read;
        asked = g.asked;
        written = written;
        legal = kept.linearizable.legal;
        alone = all_map IsOwn (IsBy s) (linearization whole) (λ r h. h.0) it.history;
        calls = g.calls;
        times = times_in whole;
        told = timed_part whole moments timed;
        timed = all_map IsOwn (IsAtItsTime (times_in whole)) (linearization whole) (λ r h. h.1) it.history;
        fair = subst (λ (n : ℕ). AllByRecursion (IsFair n) (of_session s whole).wrote) (sym it.begun ∙ g.begun) it.fair;
      }

-- ---- a stream

none_due : (d : Due) → length (asked_due d) ≡ 0 → d ≡ NothingDue
none_due NothingDue e = refl
none_due _ e = cc

module _ (start now : IoState) (has : HasLog start.engine []) (s : ℕ) (p : Progress) (T : IsTold (since_at start [] has) s now.engine now.told p.state) (served : HasPassed start.stream now.stream p) where
  abbrev log : List Entry
  log = T.later.log

  own : AllByRecursion (IsEntryOf s) log
  own = subst (λ (l : List Entry). AllByRecursion (IsEntryOf s) l) (sym T.later.since) T.later.own

  timed : AreTimed log T.later.moments
  timed = subst (λ (l : List Entry). AreTimed l T.later.moments) (sym T.later.since) T.later.timed

  answered : IsAnswered (of_session s log) (recorded_in s (linearization log))
  answered = T.later.has.kept.linearizable.answered log [] (sym (append-nil log)) s T.later.known

  abbrev read : List ℕ
  read = p.state.stream ++ p.unfed

  passes : Passes (talk_of start) (talk_of now) read T.later.moments p.written
  passes = record { was_read = served.read; was_told = T.later.clock; was_written = served.wrote }

  -- serving has stopped
  says_some : (read moments written : List ℕ) × Passes (talk_of start) (talk_of now) read moments written × IsConversation read moments written
  says_some =
      let a = answered in
      let parts : Parts s T.later.known.0 log T.later.has.kept read = record {
        bodies = a.bodies;
        rest = a.rest ++ p.unfed;
        due = a.due;
        are_bodies = a.are_bodies;
        read = ap (λ (b : List ℕ). b ++ p.unfed) (T.state.stream ∙ a.fed) ∙ append_assoc (flat_map packet a.bodies) a.rest p.unfed;
        asked = a.asked;
        calls = a.calls;
        begun = a.begun;
      } in
      let written = ap transcript (sym T.state.answers) ∙ served.begun.1 in
      (read, T.later.moments, p.written, passes, conversation s T.later.known.0 log T.later.has.kept own read T.later.moments p.written served.begun.0 parts written timed)

  -- the session was served to its end
  says_whole : (cause : Cause) → IsServed now.stream.incoming cause p → ConversesTo (talk_of start) (talk_of now) (Ok cause)
  says_whole cause ends =
      let t = p.state in
      let l = of_session s log in
      let a = answered in
      let whole = ends.whole in
      let quiet : length (asked_due a.due) ≡ 0 = omega (arith, a.begun, T.state.begun, ap (λ f. length (pending f)) whole.left) in
      let none : a.due ≡ NothingDue = none_due a.due quiet in
      let same : read ≡ t.stream = ap (λ (b : List ℕ). t.stream ++ b) ends.fed ∙ append-nil t.stream in
      let asks : map ask_behind t.answers ≡ map ask_behind l.wrote ++ [] = ap (λ (w : List Response). map ask_behind w) T.state.answers ∙ sym (append-nil (map ask_behind l.wrote)) in
      let parts : Parts s T.later.known.0 log T.later.has.kept read = record {
        bodies = t.bodies;
        rest = whole.rest;
        due = NothingDue;
        are_bodies = whole.are_bodies;
        read = same ∙ whole.stream;
        asked = subst (λ (asks : List Ask). AreAsked false t.bodies asks) asks whole.asked;
        calls = a.calls ∙ ap (λ (d : Due). answered_in l.wrote ++ recorded_due d) none;
        begun = a.begun ∙ ap (λ (d : Due). length (answered_in l.wrote) + length (asked_due d)) none;
      } in
      let written : transcript l.wrote ≡ p.written ++ [] = ap transcript (sym T.state.answers) ∙ sym ends.sent ∙ sym ends.in_step ∙ sym (append-nil p.written) in (
        read,
        T.later.moments,
        p.written,
        passes,
        record { talk = conversation s T.later.known.0 log T.later.has.kept own read T.later.moments p.written [] parts written timed; none_due = refl; all_sent = refl; end = whole.end },
        ends.at_end,
      )

-- a stream served to its end, on a new engine
pub talked_whole : (start now : IoState) (cause : Cause) → HasLog start.engine [] → ServesLine start now cause → ConversesTo (talk_of start) (talk_of now) (Ok cause)
talked_whole start now cause has serves =
    let x = serves [] has in says_whole start now has x.0 x.1 x.2 x.3 cause x.4

-- and one for which serving stopped
pub talked_some : (start now : IoState) (fault : ServeFault) → HasLog start.engine [] → StopsEarly start now fault → ConversesTo (talk_of start) (talk_of now) (Err fault)
talked_some start now fault has stops = elim (stops [] has) [
  | inl none ↦ says_nothing (talk_of start) (talk_of now) (ap talk_of none.0)
  | inr some ↦ says_some start now has some.0 some.1 some.2 some.3
]

-- the outcome of serving a stream
pub talked : (start now : IoState) (outcome : Result Cause ServeFault) → HasLog start.engine [] → IfOk outcome (λ cause. ServesLine start now cause) → IfErr outcome (λ fault. StopsEarly start now fault) → ConversesTo (talk_of start) (talk_of now) outcome
talked start now (Ok cause) has serves stops = talked_whole start now cause has serves
talked start now (Err fault) has serves stops = talked_some start now fault has stops
