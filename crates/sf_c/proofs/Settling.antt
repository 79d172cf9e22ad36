-- Bytes and turns of a session through its engine's refusals.
use Rattle.std.proofs.Common.{◌≡◌, ◌++◌, ◌∷◌, ℕ, zero, suc, List, [], map, Result, Ok, Err, refl, sym, subst, append-nil, append_assoc}
use Rattle.std.specs.Prelude.{OnOk, OnErr, IfErr}
use Rattle.sf_engine.specs.declared.event.Happened.{Happened}
use Rattle.sf_engine.specs.declared.event.Happened.TheVariants as happened
use Rattle.sf_engine.specs.declared.event.EngineFault.{EngineFault}
use Rattle.sf_engine.specs.Promise.{Entry, result_of}
use Rattle.sf_engine.specs.Views.{EngineView}
use Rattle.sf_engine.specs.contracts.promise.EngineSftp.TheImpl.{ghosts}
use Rattle.sf_refusing.specs.declared.refusals.Refusals.{Refusals}
use Rattle.sf_refusing.specs.Journal.{Act, Received, Delivered, Made, log_of}
use Rattle.sf_refusing.specs.Refusing.{HasJournal, Have, IsFed, MayRefuseFeed, MayRefuseSent}
use Rattle.sf_c.specs.declared.turns.Settled.{Settled}
use Rattle.sf_c.specs.Numbers.{leads_on, replies_of}
use Rattle.sf_c.specs.Journals.{JournalGoesOn, ComeBytes, GoBytes, IsOneTurn, FollowsFirst, AreSettled}

-- a turn that wrote a reply
pub wrote_is : (r : Result Happened EngineFault) → (replies_of r ≡ 0 → ⊥) → r ≡ Ok happened.Wrote
wrote_is (Ok happened.Wrote) some = refl
wrote_is _ some = absurd (some refl)

-- ---- the results of settling

pub settled_by : (most s m : ℕ) (settled : Settled) (journal : List Act) (first : Result Happened EngineFault) (front back : List Act)
    → (most ≡ 0 → ⊥) → IsOneTurn s m first journal front → FollowsFirst (leads_on first) first most s m settled (journal ++ front) back
    → AreSettled most s m settled journal (front ++ back)
settled_by zero s m settled journal first front back some turn follows = absurd (some refl)
settled_by (suc most) s m settled journal first front back some turn follows = (first, front, back, refl, turn, follows)

-- an engine and its refusals, unchanged
pub still : (engine : EngineView) (r : Refusals) (journal : List Act) → Have ghosts.has_log engine r journal → Have ghosts.has_log engine r (journal ++ [])
still engine r journal H = subst (λ (j : List Act). Have ghosts.has_log engine r j) (sym (append-nil journal)) H

-- acts after others
pub behind : (engine : EngineView) (r : Refusals) (journal front back : List Act) → Have ghosts.has_log engine r ((journal ++ front) ++ back) → Have ghosts.has_log engine r (journal ++ (front ++ back))
behind engine r journal front back H = subst (λ (j : List Act). Have ghosts.has_log engine r j) (append_assoc journal front back) H

-- ---- bytes in and out

same_log : (old new : EngineView) (log : List Entry) → new ≡ old → ghosts.has_log old log → ghosts.has_log new log
same_log old new log same has = subst (λ (e : EngineView). ghosts.has_log e log) (sym same) has

pub fed_so : (s : ℕ) (bytes : List ℕ) (old new : EngineView) (r r' : Refusals) (result : Result Happened EngineFault)
    → OnOk result ((journal : List Act) → Have ghosts.has_log old r journal → (asked : Entry) × IsFed s [] asked × (result_of asked ≡ result) × Have ghosts.has_log new r' (journal ++ Made asked ∷ Received s bytes ∷ []))
    → OnErr result ((new ≡ old) × ((journal : List Act) → HasJournal r journal → HasJournal r' journal))
    → IfErr result (λ f. (journal : List Act) → Have ghosts.has_log old r journal → MayRefuseFeed (log_of journal) s f)
    → OnErr result (new ≡ old) × JournalGoesOn (ComeBytes s bytes result) old r new r'
fed_so s bytes old new r r' (Ok h) ok err fault = (tt, λ journal H. let fed = ok journal H in (Made fed.0 ∷ Received s bytes ∷ [], (fed.0, fed.1, fed.2, refl), fed.3))
fed_so s bytes old new r r' (Err f) ok err fault =
    (err.0, λ journal H. ([], (fault journal H, refl), still new r' journal (err.1 journal H.0, same_log old new (log_of journal) err.0 H.1)))

sent_is : (h : Happened) → (let r : Result Happened EngineFault = Ok h in r ≡ Ok happened.Sent) → h ≡ happened.Sent
sent_is h is = cc

pub sent_so : (s n : ℕ) (old new : EngineView) (r r' : Refusals) (result : Result Happened EngineFault)
    → OnOk result ((journal : List Act) → Have ghosts.has_log old r journal → (result ≡ Ok happened.Sent) × (entries : List Entry) × Have ghosts.has_log new r' (journal ++ map Made entries ++ Delivered s n ∷ []))
    → OnErr result ((new ≡ old) × ((journal : List Act) → HasJournal r journal → HasJournal r' journal))
    → IfErr result (λ f. (journal : List Act) → Have ghosts.has_log old r journal → MayRefuseSent journal s n f)
    → OnErr result (new ≡ old) × JournalGoesOn (GoBytes s n result) old r new r'
sent_so s n old new r r' (Ok h) ok err fault = (tt, λ journal H. let done = ok journal H in (map Made done.1 ++ Delivered s n ∷ [], (sent_is h done.0, (done.1, refl)), behind new r' journal (map Made done.1) (Delivered s n ∷ []) done.2))
sent_so s n old new r r' (Err f) ok err fault =
    (err.0, λ journal H. ([], (fault journal H, refl), still new r' journal (err.1 journal H.0, same_log old new (log_of journal) err.0 H.1)))
