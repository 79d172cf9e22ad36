-- One entry of the engine's log: by its event and its result, and as part of a session's log.
use Rattle.std.proofs.Common.{◌≡◌, ℕ, ◌+◌, List, [], ◌∷◌, ◌++◌, Bool, true, false, Result, Ok, Err, refl, ap, sym, ◌∙◌, subst, arith, append-nil, append_assoc}
use Rattle.std.specs.Prelude.{nat_eq, fold, if◌then◌else◌}
use Rattle.std.specs.Global.{Vec}
use Rattle.std.specs.List.{AllByRecursion, flat_map}
use Rattle.std.proofs.lemmas.List.Sums.{fold-append}
use Rattle.sf_engine.specs.declared.event.Event.{Event}
use Rattle.sf_engine.specs.declared.event.Event.TheVariants as event
use Rattle.sf_engine.specs.declared.event.Happened.{Happened}
use Rattle.sf_engine.specs.declared.event.EngineFault.{EngineFault}
use Rattle.sf_session.specs.Responses.{Response, if_so}
use Rattle.sf_engine.specs.Promise.{Entry, BytesFed, ReplyWritten, BytesSent, EventRefused, event_of, result_of, session_of, SessionLog, new_log, with_own, with_next, of_session, MayBeRefused, IsLawful, continues, AreTurnsOf}
use Rattle.sf_refusing.specs.Journal.{bytes_fed, replies_written, bytes_sent, fed_by, written_by, sent_at}
use Rattle.sf_refusing.specs.Refusing.{IsFed, moves_bytes}

pub none_so : {A : Type 0} (b : Bool) → if_so {A = A} b [] ≡ []
none_so true = refl
none_so false = refl

pub zero_so : (b : Bool) → ◌≡◌ {A = ℕ} (if b then 0 else 0) 0
zero_so true = refl
zero_so false = refl

-- ---- an event and its result

pub fed_entry : (x : Entry) (s : ℕ) (fed : Vec ℕ) (h : Happened) → event_of x ≡ event.Feed s fed → result_of x ≡ Ok h → x ≡ BytesFed s fed
fed_entry (BytesFed t bytes) s fed h is ok = cc
fed_entry _ s fed h is ok = absurd cc

pub sent_entry : (x : Entry) (s n : ℕ) (h : Happened) → event_of x ≡ event.Sent s n → result_of x ≡ Ok h → x ≡ BytesSent s n
sent_entry (BytesSent t k) s n h is ok = cc
sent_entry _ s n h is ok = absurd cc

pub refused_entry : (front : List Entry) (x : Entry) (ev : Event) (f : EngineFault) → event_of x ≡ ev → result_of x ≡ Err f → IsLawful front x → MayBeRefused front ev f
refused_entry front (EventRefused e g) ev f is err may =
    let same : g ≡ f = cc in
    subst (λ (z : Event). MayBeRefused front z f) is (subst (λ (z : EngineFault). MayBeRefused front e z) same may)
refused_entry front _ ev f is err may = absurd cc

-- ---- an entry that neither feeds nor removes output

pub record IsPlain (x : Entry) : Type 0 where
  pub no_bytes : bytes_fed x ≡ []
  pub none_sent : bytes_sent x ≡ 0

pub plain_fed : (s : ℕ) (x : Entry) → IsPlain x → fed_by s x ≡ []
plain_fed s x P = ap (λ (bytes : List ℕ). if_so (nat_eq (session_of x) s) bytes) P.no_bytes ∙ none_so (nat_eq (session_of x) s)

pub plain_sent : (s : ℕ) (x : Entry) → IsPlain x → sent_at s x ≡ 0
plain_sent s x P = ap (λ (n : ℕ). if nat_eq (session_of x) s then n else 0) P.none_sent ∙ zero_so (nat_eq (session_of x) s)

pub plain_turn : (s m : ℕ) (x : Entry) → event_of x ≡ event.Turn s m → IsPlain x
plain_turn s m (BytesFed t bytes) is = absurd cc
plain_turn s m (BytesSent t n) is = absurd cc
plain_turn s m _ is = record { no_bytes = refl; none_sent = refl }

pub plain_probe : (s : ℕ) (x : Entry) → IsFed s [] x → IsPlain x
plain_probe s x F = record { no_bytes = ap bytes_fed F.is ∙ F.items; none_sent = ap bytes_sent F.is }

pub plain_turns : (s m : ℕ) (r : Result Happened EngineFault) (entries : List Entry) → AreTurnsOf s m r entries → AllByRecursion IsPlain entries
plain_turns s m r entries turns = subst (λ (xs : List Entry). AllByRecursion IsPlain xs) (sym turns.2) (each turns.0 turns.3)
  where
    each : (xs : List Entry) → AllByRecursion (λ x. (event_of x ≡ event.Turn s m) × (continues (result_of x) ≡ true)) xs → AllByRecursion IsPlain (xs ++ turns.1 ∷ [])
    each [] all = (plain_turn s m turns.1 turns.4, tt)
    each (x ∷ xs) all = (plain_turn s m x all.0.0, each xs all.1)

pub apart_fed : (s : ℕ) (x : Entry) → moves_bytes s x ≡ false → fed_by s x ≡ []
apart_fed s (BytesFed t bytes) apart = ap (λ (b : Bool). if_so b bytes.items) apart
apart_fed s _ apart = none_so _

pub apart_sent : (s : ℕ) (x : Entry) → moves_bytes s x ≡ false → sent_at s x ≡ 0
apart_sent s (BytesSent t n) apart = ap (λ (b : Bool). if b then n else 0) apart
apart_sent s _ apart = zero_so _

-- ---- a session's part of a log

abbrev pub Adds : SessionLog → SessionLog → List ℕ → List Response → ℕ → Type 0
Adds t u fed wrote sent = (u.fed ≡ t.fed ++ fed) × (u.wrote ≡ t.wrote ++ wrote) × (u.sent ≡ t.sent + sent)

adds_nothing : (t : SessionLog) → Adds t t [] [] 0
adds_nothing t = (sym (append-nil t.fed), sym (append-nil t.wrote), omega arith)

own_adds : (t : SessionLog) (x : Entry) → Adds t (with_own t x) (bytes_fed x) (replies_written x) (bytes_sent x)
own_adds t (BytesFed s bytes) = (refl, sym (append-nil t.wrote), omega arith)
own_adds t (ReplyWritten s m reply leaves) = (sym (append-nil t.fed), refl, omega arith)
own_adds t (BytesSent s n) = (sym (append-nil t.fed), sym (append-nil t.wrote), refl)
own_adds t _ = adds_nothing t

entry_adds : (s : ℕ) (t : SessionLog) (x : Entry) → Adds t (with_next s t x) (fed_by s x) (written_by s x) (sent_at s x)
entry_adds s t x = so (nat_eq (session_of x) s)
  where
    so : (b : Bool) → Adds t (if b then with_own t x else t) (if_so b (bytes_fed x)) (if_so b (replies_written x)) (if b then bytes_sent x else 0)
    so true = own_adds t x
    so false = adds_nothing t

pub log_adds : (s : ℕ) (log : List Entry) (x : Entry) → Adds (of_session s log) (of_session s (log ++ x ∷ [])) (fed_by s x) (written_by s x) (sent_at s x)
log_adds s log x =
    subst (λ (t : SessionLog). Adds (of_session s log) t (fed_by s x) (written_by s x) (sent_at s x)) (sym (fold-append (with_next s) new_log log (x ∷ []))) (entry_adds s (of_session s log) x)

-- the bytes and the replies of a whole log
pub all_added : (s : ℕ) (log : List Entry) → ((of_session s log).fed ≡ flat_map (fed_by s) log) × ((of_session s log).wrote ≡ flat_map (written_by s) log)
all_added s log = after log new_log
  where
    after : (log : List Entry) (t : SessionLog) → ((fold (with_next s) t log).fed ≡ t.fed ++ flat_map (fed_by s) log) × ((fold (with_next s) t log).wrote ≡ t.wrote ++ flat_map (written_by s) log)
    after [] t = (sym (append-nil t.fed), sym (append-nil t.wrote))
    after (x ∷ log) t =
        let one = entry_adds s t x in
        let all = after log (with_next s t x) in (
          all.0 ∙ ap (λ (b : List ℕ). b ++ flat_map (fed_by s) log) one.0 ∙ append_assoc t.fed (fed_by s x) (flat_map (fed_by s) log),
          all.1 ∙ ap (λ (b : List Response). b ++ flat_map (written_by s) log) one.1 ∙ append_assoc t.wrote (written_by s x) (flat_map (written_by s) log),
        )
