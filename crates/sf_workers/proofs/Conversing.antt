-- What passed over a stream that was served is its session's conversation, in each history that
-- has its visit.
use Rattle.std.proofs.Common.{◌≡◌, ℕ, List, [], ◌∷◌, ◌++◌, Bool, true, false, refl, ap, sym, ◌∙◌, subst, inl, inr, append_assoc, map, ◌⊎◌, nat_eq, if◌then◌else◌, Some, None}
use Rattle.std.specs.List.{flat_map, cons_option}
use Rattle.std.proofs.lemmas.List.{map-append}
use Rattle.sf_field.specs.Fields.{packet}
use Rattle.sf_call.specs.declared.request.Request.{Request}
use Rattle.sf_call.specs.declared.record.Record.{Record}
use Rattle.sf_call.specs.declared.record.Record.TheVariants.{Did, Left}
use Rattle.sf_core.specs.Cores.{LaneState}
use Rattle.sf_core.specs.Cores.LaneState.{NoLane, Busy}
use Rattle.sf_session.specs.declared.asking.Ask.{Ask}
use Rattle.sf_session.specs.Responses.{RepliedCall, Response, Version, Locally, ByCall, Refused, ask_behind, AreAsked, if_so, recorded_in, answered_in, Due, NothingDue, Unrecorded, Recorded, asked_due, recorded_due}
use Rattle.sf_session.specs.SessionStates.{Phase, Resting, UnderWay, Decided, Gone, pending}
use Rattle.sf_audit.specs.Audits.{CallRecord, call_records}
use Rattle.sf_noted.specs.Pages.{BegunCall, begun_call, Page}
use Rattle.sf_noted.specs.Visits.{MayWait, IsVisitIn}
use Rattle.sf_connection.specs.Streams.{StreamView}
use Rattle.sf_pool.specs.SessionLanes.{Joined}
use Rattle.sf_pool.specs.Scenes.{response_calls, phase_calls, IsInCall}
use Rattle.sf_workers.specs.Sessions.{WasServed}
use Rattle.sf_workers.specs.Conversations.{ConversesIn}
use Rattle.sf_workers.proofs.Ending.{same_state}

-- ---- a session's calls, in the words of a conversation

abbrev replied : CallRecord → RepliedCall
replied c = record { number = c.number; request = c.request; reply = c.reply }

recorded_one : (is_own : Bool) (c : CallRecord) (more : List RepliedCall) (rest : List CallRecord) → more ≡ map replied rest
    → if_so is_own (replied c ∷ []) ++ more ≡ map replied (cons_option (if is_own then Some c else None) rest)
recorded_one true c more rest same = ap (λ (l : List RepliedCall). replied c ∷ l) same
recorded_one false c more rest same = same

recorded_are : (session : ℕ) (history : List Record) → recorded_in session history ≡ map replied (call_records session history)
recorded_are session [] = refl
recorded_are session (Left s ∷ history) = recorded_are session history
recorded_are session (Did number s moment request given ∷ history) =
    recorded_one (nat_eq s session) (record { number = number; request = request; reply = given })
    (recorded_in session history) (call_records session history) (recorded_are session history)

answered_are : (answers : List Response) → answered_in answers ≡ map replied (flat_map response_calls answers)
answered_are [] = refl
answered_are (Version ∷ answers) = answered_are answers
answered_are (Locally id reply ∷ answers) = answered_are answers
answered_are (ByCall id number request reply ∷ answers) =
    ap (λ (l : List RepliedCall). record { number = number; request = request; reply = reply } ∷ l) (answered_are answers)
answered_are (Refused id request fault ∷ answers) = answered_are answers

-- ---- what is due

-- what is due to a session with these pending calls
record DueFor (phase : Phase) (waits : List CallRecord) : Type 0 where
  due : Due
  asked : pending phase ≡ asked_due due
  calls : map replied (phase_calls phase ++ waits) ≡ recorded_due due

none_waits : (phase : Phase) → DueFor phase []
none_waits Resting = record { due = NothingDue; asked = refl; calls = refl }
none_waits (UnderWay id number moment request moves) = record { due = Unrecorded id request; asked = refl; calls = refl }
none_waits (Decided id number request reply) =
    record { due = Recorded id (record { number = number; request = request; reply = reply }); asked = refl; calls = refl }
none_waits (Gone cause) = record { due = NothingDue; asked = refl; calls = refl }

left_due : (phase : Phase) (waits : List CallRecord) → MayWait NoLane waits → DueFor phase waits
left_due phase waits (inl none) = subst (DueFor phase) (sym none) (none_waits phase)
left_due phase waits (inr one) = subst (DueFor phase) (sym one.1) (none_waits phase)

in_call_due : (id number moment : ℕ) (request : Request) (moves : ℕ) (waits : List CallRecord)
    → MayWait (Busy (begun_call number moment request)) waits → DueFor (UnderWay id number moment request moves) waits
in_call_due id number moment request moves waits (inl none) =
    subst (DueFor (UnderWay id number moment request moves)) (sym none) (none_waits (UnderWay id number moment request moves))
in_call_due id number moment request moves waits (inr one) =
    subst (DueFor (UnderWay id number moment request moves)) (sym one.1)
    (record { due = Recorded id (record { number = number; request = request; reply = one.0 }); asked = refl; calls = refl })

due_of : (state : LaneState BegunCall) (phase : Phase) (waits : List CallRecord) → (state ≡ NoLane) ⊎ IsInCall (Joined state) phase
    → MayWait state waits → DueFor phase waits
due_of state phase waits (inl gone) may = left_due phase waits (subst (λ (p : LaneState BegunCall). MayWait p waits) gone may)
due_of state phase waits (inr call) may =
    let same = same_state state (Busy (begun_call call.number call.moment call.request)) call.placed in
    subst (λ (f : Phase). DueFor f waits) (sym call.waits)
    (in_call_due call.id call.number call.moment call.request call.moves waits (subst (λ (p : LaneState BegunCall). MayWait p waits) same may))

-- ---- what passed

pub conversing : (x : ℕ × Page) (from to : StreamView) (steps : ℕ) (history : List Record) → WasServed x from to steps → IsVisitIn history x → ConversesIn history x.0 from to
conversing x from to steps history serves visit =
    let p = serves.progress in
    let t = p.state in
    let served = serves.passed in
    let waits = visit.0 in
    let d = due_of x.1.state t.phase waits serves.stands visit.2 in
    let calls = flat_map response_calls t.answers in
    let more = phase_calls t.phase ++ waits in
    let all : call_records x.0 history ≡ calls ++ more = visit.1 ∙ ap (λ (l : List CallRecord). l ++ waits) serves.calls ∙ append_assoc calls (phase_calls t.phase) waits in (
      t.stream ++ p.unfed,
      p.written,
      served.read,
      served.wrote,
      record {
        bodies = t.bodies;
        rest = served.bodies.rest ++ p.unfed;
        answers = t.answers;
        due = d.due;
        unsent = served.begun.0;
        are_bodies = served.bodies.are_bodies;
        read = ap (λ (bs : List ℕ). bs ++ p.unfed) served.bodies.stream ∙ append_assoc (flat_map packet t.bodies) served.bodies.rest p.unfed;
        asked = subst (λ (asks : List Ask). AreAsked false t.bodies (map ask_behind t.answers ++ asks)) d.asked served.bodies.asked;
        written = served.begun.1;
        calls = recorded_are x.0 history ∙ ap (λ (l : List CallRecord). map replied l) all ∙ map-append replied calls more
            ∙ ap (λ (l : List RepliedCall). l ++ map replied more) (sym (answered_are t.answers))
            ∙ ap (λ (l : List RepliedCall). answered_in t.answers ++ l) d.calls;
      },
    )
