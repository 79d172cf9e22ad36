-- Wrong logs.
use Rattle.std.proofs.Common.{◌≡◌, ℕ, zero, suc, ◌+◌, ◌<◌, ◌≤◌, List, [], ◌∷◌, ◌++◌, Bool, false, length, refl, ap, sym, ◌∙◌, subst, arith, append-nil}
use Rattle.std.specs.Prelude.{Vec}
use Rattle.std.specs.Global.{Global}
use Rattle.std.specs.List.{flat_map, Contains}
use Rattle.sf_field.specs.Fields.{packet}
use Rattle.sf_wire.specs.declared.cutting.Cut.TheVariants as cut
use Rattle.sf_wire.specs.Packets.{IsBody, IsCut}
use Rattle.sf_wire.proofs.Laws.{one_cut}
use Rattle.sf_reply.specs.declared.reply.Reply.TheVariants as reply
use Rattle.sf_reply.specs.declared.reply.StatusCode.TheVariants.{Failure}
use Rattle.sf_session.specs.Responses.{RepliedCall, ByCall, AreAsked, Due, Recorded, recorded_due, recorded_in, answered_in, asked_due}
use Rattle.sf_engine.specs.declared.event.Event.TheVariants.{Open}
use Rattle.sf_engine.specs.declared.event.EngineFault.TheVariants.{Sessions}
use Rattle.sf_engine.specs.HasLog.{replied}
use Rattle.sf_engine.specs.Promise.{Entry, SessionOpened, BytesFed, CallDecided, ReplyWritten, SessionIdle, SessionPhase, WithoutCall, Running, linearization, of_session, IsKept, IsAnswered, IsInPhase, HasFewMoves, most_steps, AreNeverAllBlocked, EventRefused}
use Rattle.sf_engine.specs.Wrong.{init_packet, mkdir, succeeded, made, begun_with, first_decided, shared_record, unsent_request, other_reply, idle_turn, endless_call, blocked_calls, early_refusal}

pub no_shared_record : (bytes : Vec ℕ Global) → IsKept (shared_record bytes) → ⊥
no_shared_record bytes kept =
    let x = kept.linearizable.answered (shared_record bytes) [] (sym (append-nil (shared_record bytes))) 1 (omega arith, omega arith) in
    let both : replied 1 mkdir succeeded ∷ [] ≡ replied 1 mkdir succeeded ∷ replied 1 mkdir succeeded ∷ recorded_due x.due = x.calls in
    absurd (let count = ap (λ (cs : List RepliedCall). length cs) both in omega (arith, count))

pub no_unsent_request : (bytes : Vec ℕ Global) → IsKept (unsent_request bytes) → ⊥
no_unsent_request bytes kept =
    let lawful = kept.lawful (begun_with bytes) [] (CallDecided 1 100 (made ∷ [])) refl in
    let z : WithoutCall ≡ Running = lawful.1 in
    absurd cc

one_call : (x y : RepliedCall) → x ∷ [] ≡ y ∷ [] → x ≡ y
one_call x y e = cc

not_failed : succeeded ≡ reply.Status Failure → ⊥
not_failed e = cc

pub no_other_reply : (bytes : Vec ℕ Global) → IsKept (other_reply bytes) → ⊥
no_other_reply bytes kept =
    let lawful = kept.lawful (begun_with bytes ++ first_decided) [] (ReplyWritten 1 100 (ByCall 7 1 mkdir (reply.Status Failure)) false) refl in
    not_failed (ap (λ (c : RepliedCall). c.reply) (one_call (replied 1 mkdir succeeded) (replied 1 mkdir (reply.Status Failure)) lawful.1))

no_bodies : (bodies : List (List ℕ)) → AreAsked false bodies [] → bodies ≡ []
unfolding AreAsked
no_bodies [] asked = refl
no_bodies (body ∷ bodies) asked = absurd asked

init_body : IsBody (1 ∷ 0 ∷ 0 ∷ 0 ∷ 3 ∷ [])
init_body = record { some = omega arith; short = omega arith }

init_whole : IsCut init_packet (cut.Whole 9)
init_whole = ((1 ∷ 0 ∷ 0 ∷ 0 ∷ 3 ∷ []), [], init_body, refl, refl)

pub no_idle_turn : (bytes : Vec ℕ Global) → bytes.items ≡ init_packet → IsKept (idle_turn bytes) → ⊥
no_idle_turn bytes is kept =
    let x = kept.linearizable.answered (idle_turn bytes) [] (sym (append-nil (idle_turn bytes))) 1 (omega arith, omega arith) in
    let asked : AreAsked false x.bodies [] = subst (λ (d : Due). AreAsked false x.bodies (asked_due d)) x.after_last.0 x.asked in
    let none = no_bodies x.bodies asked in
    let rest : init_packet ≡ x.rest = sym is ∙ x.fed ∙ ap (λ (bs : List (List ℕ)). flat_map packet bs ++ x.rest) none in
    let more : IsCut init_packet cut.More = subst (λ (bs : List ℕ). IsCut bs cut.More) (sym rest) x.after_last.1 in
    let e : cut.Whole 9 ≡ cut.More = one_cut init_packet (cut.Whole 9) cut.More init_whole more in absurd cc

pub no_endless_call : (bytes : Vec ℕ Global) → IsKept (endless_call bytes) → ⊥
no_endless_call bytes kept =
    let x = kept.linearizable.answered (endless_call bytes) [] (sym (append-nil (endless_call bytes))) 1 (omega arith, omega arith) in
    let due = x.after_last in
    let call = one_call (replied 1 mkdir succeeded) due.1 (x.calls ∙ ap recorded_due due.2) in
    let few : HasFewMoves (Recorded due.0 due.1) 4 = subst (λ (d : Due). HasFewMoves d 4) due.2 x.few in
    let steps : most_steps mkdir ≡ most_steps due.1.request = ap (λ (c : RepliedCall). most_steps c.request) call in
    absurd (omega (arith, few, steps))

pub no_blocked_calls : AreNeverAllBlocked blocked_calls → ⊥
no_blocked_calls never = never 1 ((omega arith, omega arith), refl) all
  where
    all : (z : ℕ) → IsInPhase blocked_calls z Running → Contains (2 ∷ 1 ∷ []) z
    all (suc zero) at = (1, omega arith, refl)
    all (suc (suc zero)) at = (0, omega arith, refl)
    all _ at = absurd (omega (arith, at.0.0, at.0.1))

pub no_early_refusal : IsKept early_refusal → ⊥
no_early_refusal kept = let many = kept.lawful [] [] (EventRefused Open Sessions) refl in absurd (omega (arith, many))
