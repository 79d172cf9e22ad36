-- The only error of an event for a session that waits for bytes: memory runs out.
use Rattle.std.proofs.Common.{◌≡◌, ℕ, zero, suc, ◌+◌, ◌-◌, ◌++◌, ◌∙◌, List, Bool, true, false, Result, Ok, Err, length, refl, ap, sym, arith, inl, inr, length-append}
use Rattle.std.specs.Global.{Vec}
use Rattle.std.specs.Prelude.{IfErr}
use Rattle.sf_refusing.specs.Journal.{Act, log_of, sent_in, delivered_in}
use Rattle.sf_refusing.specs.Refusing.{HasUnsent, IsServedHere, ServesHere, MayRefuseFeed, MayRefuseSent}
use Rattle.sf_engine.specs.declared.event.Event.TheVariants as event
use Rattle.sf_engine.specs.declared.event.EngineFault.{EngineFault}
use Rattle.sf_engine.specs.declared.event.EngineFault.TheVariants as fault
use Rattle.sf_session.specs.Responses.{Due, NothingDue, Unrecorded, Recorded, asked_due, answered_in}
use Rattle.sf_engine.specs.Promise.{Entry, of_session, WithoutCall, phase_at, IsKnown, WaitsForBytes, MayBeRefused}

-- a session that waits is here, and has no pending reply
rests : (left : Bool) (due : ℕ) (decided : Bool) → phase_at left due decided ≡ WithoutCall → (left ≡ false) × (due ≡ 0)
rests true due decided is = absurd cc
rests false zero decided is = (refl, refl)
rests false (suc due) true is = absurd cc
rests false (suc due) false is = absurd cc

none_due : (due : Due) → length (asked_due due) ≡ 0 → due ≡ NothingDue
none_due NothingDue none = refl
none_due (Unrecorded id request) none = absurd (omega (arith, none))
none_due (Recorded id call) none = absurd (omega (arith, none))

pub feed_fault : (log : List Entry) (s : ℕ) (fed : Vec ℕ) (f : EngineFault) → WaitsForBytes log s → MayBeRefused log (event.Feed s fed) f → f ≡ fault.OutOfMemory
feed_fault log s fed fault.OutOfMemory waits may = refl
feed_fault log s fed fault.NoSuchSession waits may = absurd (may waits.at.0)
feed_fault log s fed fault.Ended waits may =
    let t = of_session s log in
    let a = waits.answered in
    let rest = rests t.left (t.begun - length (answered_in t.wrote)) t.call.decided waits.at.1 in
    let none : a.due ≡ NothingDue = none_due a.due (omega (arith, rest.1, a.begun)) in
    let here : t.left ≡ true → ⊥ = λ left. let z : false ≡ true = sym rest.0 ∙ left in cc in
    absurd (elim may.1 [ inl closed ↦ here (a.closed closed none) | inr left ↦ here left ])
feed_fault log s fed _ waits may = absurd may

-- all of a session's output may be removed
pub sent_fault : (log : List Entry) (s : ℕ) (u : List ℕ) (n : ℕ) (f : EngineFault) → IsKnown log s → HasUnsent log s u → n ≡ length u → MayBeRefused log (event.Sent s n) f → f ≡ fault.OutOfMemory
sent_fault log s u n fault.OutOfMemory known U all may = refl
sent_fault log s u n fault.NoSuchSession known U all may = absurd (may known)
sent_fault log s u n fault.NotSent known U all may =
    absurd (omega (arith, may.1, all, ap (λ (b : List ℕ). length b) U.packets, length-append U.sent u, U.count_is))
sent_fault log s u n _ known U all may = absurd may

pub feed_refused : (log : List Entry) (s : ℕ) (fed : Vec ℕ) (f : EngineFault) → IsKnown log s → MayBeRefused log (event.Feed s fed) f → MayRefuseFeed log s f
feed_refused log s fed fault.OutOfMemory known may = known
feed_refused log s fed fault.NoSuchSession known may = may
feed_refused log s fed fault.Ended known may = may
feed_refused log s fed _ known may = absurd may

-- more than the output, of which some is buffered here
pub sent_refused : (journal : List Act) (s n k : ℕ) (held output : List ℕ) (begun : Bool) (f : EngineFault) → n ≡ length output + k → ServesHere journal s held output begun → MayBeRefused (log_of journal) (event.Sent s k) f → MayRefuseSent journal s n f
sent_refused journal s n k held output begun fault.NoSuchSession all S may = may
sent_refused journal s n k held output begun fault.NotSent all S may = λ own.
    let T : IsServedHere journal s held output = S.served own in
    let waits : length (sent_in s journal) ≡ delivered_in s journal + (length output + length T.unsent) =
    ap (λ (b : List ℕ). length b) T.waits ∙ omega (arith, length-append (T.gone ++ output) T.unsent, length-append T.gone output, T.count) in
    omega (arith, waits, all, may.1, ap (λ (b : List ℕ). length b) T.in_engine.packets, length-append T.in_engine.sent T.unsent, T.in_engine.count_is)
sent_refused journal s n k held output begun _ all S may = absurd may

pub on_err_from : {A B : Type 0} (r : Result A B) (P : B → Type 0) → ((f : B) → r ≡ Err f → P f) → IfErr r P
on_err_from (Ok x) P f = tt
on_err_from (Err e) P f = f e refl
