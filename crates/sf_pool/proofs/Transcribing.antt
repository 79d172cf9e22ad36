-- A lane that notes what its session was told, between two events.
use Rattle.std.proofs.Common.{◌≡◌, ◌≢◌, ◌++◌, ◌∷◌, [], ℕ, Bool, List, Option, Some, Result, map, refl, sym, ap, ◌∙◌, subst, append_assoc}
use Rattle.std.proofs.lemmas.List.{map-append}
use Rattle.sf_reply.specs.declared.reply.Reply.{Reply}
use Rattle.sf_call.specs.declared.request.Request.{Request}
use Rattle.sf_call.specs.declared.fault.JoinFault.{JoinFault}
use Rattle.sf_core.specs.Cores.{CoreView, LaneState}
use Rattle.sf_core.specs.Cores.LaneState.{NoLane, Idle, Busy}
use Rattle.sf_audit.specs.declared.transcript.AnsweredCall.{AnsweredCall}
use Rattle.sf_audit.specs.declared.transcript.Transcript.{Transcript}
use Rattle.sf_audit.specs.Audits.{CallRecord, call_record}
use Rattle.sf_noted.specs.Pages.{BegunCall, Page}
use Rattle.sf_noted.specs.PageChanges.{as_told}
use Rattle.sf_noted.specs.Noted.{number_in, page_answered}
use Rattle.sf_pool.specs.declared.session_lane.StepResult.{StepResult}
use Rattle.sf_pool.specs.declared.session_lane.StepResult.TheVariants.{Answered}
use Rattle.sf_pool.specs.declared.transcript_lane.Place.{Place}
use Rattle.sf_pool.specs.declared.transcript_lane.Place.TheVariants as place
use Rattle.sf_pool.specs.SessionLanes.{New, IsLast, IsLastAnswer, SessionLaneView, next_count, Steps}
use Rattle.sf_pool.specs.OnCores.{IsPageOf, IsVisitOf, calls_begun_by}
use Rattle.sf_pool.specs.TranscriptLanes.{session_lane_at, calls_in, WasAsked, EndsAs, IsTranscriptLane}

-- the last call that is kept is the last that was told
pub last_kept : (d : SessionLaneView) (asked : Option Request) (t : Transcript) → IsTranscriptLane d asked t → (earlier : List AnsweredCall) (call : AnsweredCall) → t.calls.items ≡ earlier ++ call ∷ [] → IsLast d.calls (call_record call)
last_kept d asked t transcript_lane earlier call whole = (
  transcript_lane.earlier ++ map call_record earlier,
  transcript_lane.whole
      ∙ (ap (λ (l : List AnsweredCall). transcript_lane.earlier ++ map call_record l) whole
      ∙ (ap (λ (l : List CallRecord). transcript_lane.earlier ++ l) (map-append call_record earlier (call ∷ [])) ∙ sym (append_assoc transcript_lane.earlier (map call_record earlier) (call_record call ∷ [])))),
)

-- the page of the lane that it is made of is its session's
pub own_page : {B : Type 0} (p : Place B) (lane : ℕ × Page) (keeps : Bool) (steps : ℕ) (d : SessionLaneView) → session_lane_at p keeps steps ≡ d → p ≡ place.Joined lane → IsPageOf d lane
own_page p lane keeps steps d view at =
    subst (λ (x : SessionLaneView). IsPageOf x lane) view (subst (λ q. IsPageOf (session_lane_at q keeps steps) lane) (sym at) (record { session = refl; place = refl; told = refl }))

-- what a step shows that answers the lane's call
pub answers : {B : Type 0} (p : Place B) (lane lane' : ℕ × Page) (keeps : Bool) (steps steps' : ℕ) (d : SessionLaneView) (told : StepResult) (reply : Reply) → session_lane_at p keeps steps ≡ d → p ≡ place.Joined lane → told ≡ Answered → lane' ≡ page_answered lane reply → steps' ≡ next_count steps
    → Steps d told (session_lane_at {B = B} (place.Joined lane') keeps steps')
answers {B = B} p lane lane' keeps steps steps' d told reply view at is noted more =
    let after : ℕ × Page → ℕ → SessionLaneView = λ l n. session_lane_at {B = B} (place.Joined l) keeps n in
    subst (λ (x : SessionLaneView). Steps x told (after lane' steps')) view (subst (λ q. Steps (session_lane_at q keeps steps) told (after lane' steps')) (sym at)
    (subst (λ (k : StepResult). Steps (session_lane_at {B = B} (place.Joined lane) keeps steps) k (after lane' steps')) (sym is)
    (subst (λ (l : ℕ × Page). Steps (session_lane_at {B = B} (place.Joined lane) keeps steps) Answered (after l steps')) (sym noted)
    (subst (λ (n : ℕ). Steps (session_lane_at {B = B} (place.Joined lane) keeps steps) Answered (after (page_answered lane reply) n)) (sym more) (reply, refl)))))

-- and the answer is the last that was told
pub last_answered : (lane lane' : ℕ × Page) (number : ℕ) (reply : Reply) → number_in lane.1.state ≡ Some number → lane' ≡ page_answered lane reply → IsLastAnswer lane'.1.told number reply
last_answered lane lane' number reply own noted = subst (λ (l : ℕ × Page). IsLastAnswer l.1.told number reply) (sym noted) (by_state lane.1.state own)
  where
    by_state : (state : LaneState BegunCall) → number_in state ≡ Some number → IsLastAnswer (lane.1.told ++ as_told state reply) number reply
    by_state (Busy call) e =
        let same : call.number ≡ number = cc in
        (lane.1.told, call.request, ap (λ (k : ℕ). lane.1.told ++ record { number = k; request = call.request; reply = reply } ∷ []) same)
    by_state Idle e = absurd (cc)
    by_state NoLane e = absurd (cc)

-- ---- how it ends

pub was_asked : {B : Type 0} (p : Place B) (keeps : Bool) (steps : ℕ) (d : SessionLaneView) → session_lane_at p keeps steps ≡ d → d.place ≢ New → WasAsked p
was_asked place.New keeps steps d view asked = asked (ap (λ (x : SessionLaneView). x.place) (sym view))
was_asked (place.Refused fault) keeps steps d view asked = tt
was_asked (place.Joined lane) keeps steps d view asked = tt
was_asked (place.Left visit) keeps steps d view asked = tt

pub visit_of : {B : Type 0} (p : Place B) (keeps : Bool) (steps : ℕ) (d : SessionLaneView) (ended : Result (ℕ × Page) JoinFault) → session_lane_at p keeps steps ≡ d → EndsAs p ended → IsVisitOf d ended
visit_of place.New keeps steps d ended view ends = absurd ends
visit_of (place.Refused fault) keeps steps d ended view ends = subst (IsVisitOf d) (sym ends) (ap (λ (x : SessionLaneView). x.place) (sym view))
visit_of (place.Joined lane) keeps steps d ended view ends =
    subst (IsVisitOf d) (sym ends) (subst (λ (x : SessionLaneView). IsPageOf x lane) view (record { session = refl; place = refl; told = refl }))
visit_of (place.Left visit) keeps steps d ended view ends =
    subst (IsVisitOf d) (sym ends) (subst (λ (x : SessionLaneView). IsPageOf x visit) view (record { session = refl; place = refl; told = refl }))

pub calls_of_end : {B : Type 0} (p : Place B) (ended : Result (ℕ × Page) JoinFault) → EndsAs p ended → calls_in p ≡ calls_begun_by ended
calls_of_end place.New ended ends = absurd ends
calls_of_end (place.Refused fault) ended ends = ap calls_begun_by (sym ends)
calls_of_end (place.Joined lane) ended ends = ap calls_begun_by (sym ends)
calls_of_end (place.Left visit) ended ends = ap calls_begun_by (sym ends)
