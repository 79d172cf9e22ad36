-- A session's place in the core, as its page tells it.
use Rattle.std.proofs.Common.{◌≡◌, ◌+◌, ◌-◌, ◌^◌, ◌++◌, ◌∷◌, [], ℕ, List, min, length, None, refl, sym, ap, ◌∙◌, subst, inl, inr, arith, length-append}
use Rattle.sf_reply.specs.declared.reply.Reply.{Reply}
use Rattle.sf_call.specs.declared.record.Record.{Record}
use Rattle.sf_core.specs.Lanes.{LaneView, at_rest}
use Rattle.sf_core.specs.Cores.{CoreView, LaneState}
use Rattle.sf_core.specs.Cores.LaneState.{Idle, Busy}
use Rattle.sf_core.specs.declared.step.Step.{Step}
use Rattle.sf_core.specs.declared.step.Step.TheVariants.{Moved}
use Rattle.sf_core.specs.Events.{Before, After, TakesStep, StepsOn}
use Rattle.sf_audit.specs.Audits.{CallRecord}
use Rattle.sf_noted.specs.Pages.{BegunCall, Page, calls_under_way}
use Rattle.sf_noted.specs.PageChanges.{page, as_told, IsUnderWay}
use Rattle.sf_noted.specs.Noted.{number_in, begun_beside, lane_of}
use Rattle.sf_noted.specs.Growth.{AddsBy}

pub own_place : (lane : LaneView) (place : ℕ) (p : Page) → lane ≡ lane_of (place + 1, p) → lane.session ≡ place + 1
own_place lane place p is = ap (λ (l : LaneView). l.session) is

-- the lane, by the number that it has itself
pub lane_seen : (lane : LaneView) (place : ℕ) (p : Page) → lane ≡ lane_of (place + 1, p) → lane_of (lane.session, p) ≡ lane
lane_seen lane place p is = ap (λ s. lane_of (s, p)) (own_place lane place p is) ∙ sym is

-- so many calls were told, and the session stands so
abbrev lane_at : ℕ → ℕ → LaneState BegunCall → LaneView
lane_at s told state = record { session = s; call = number_in state; begun = begun_beside state told }

-- the call under way
pub under_way : (state : LaneState BegunCall) → IsUnderWay state → (call : BegunCall) × (state ≡ Busy call)
under_way (Busy call) busy = (call, refl)
under_way _ busy = absurd busy

answers_lane : (s : ℕ) (p : Page) (given : Reply) → IsUnderWay p.state → at_rest (lane_of (s, p)) ≡ lane_of (s, page Idle (p.told ++ as_told p.state given))
answers_lane s p given busy =
    let call = under_way p.state busy in
    ap (λ x. at_rest (lane_at s (length p.told) x)) call.1
    ∙ (ap (λ (n : ℕ). record { session = s; call = None; begun = min n (2 ^ 64 - 1) }) (sym (length-append p.told (as_told (Busy call.0) given)))
    ∙ sym (ap (λ x. lane_of (s, page Idle (p.told ++ as_told x given))) call.1))

pub answered_calls : (state : LaneState BegunCall) (told : List CallRecord) (given : Reply) → IsUnderWay state → length (told ++ as_told state given) + 0 ≡ length told + calls_under_way state
answered_calls (Busy call) told given busy =
    let more = length-append told (as_told (Busy call) given) in
    omega arith
answered_calls _ told given busy = absurd busy

-- the lane after a step that doesn't answer its call, and its ticket
pub lane_kept : (lane lane' : LaneView) (t t' : ℕ × Page) → lane ≡ lane_of (t.0 + 1, t.1) → lane' ≡ lane → t' ≡ t → lane' ≡ lane_of (t'.0 + 1, t'.1)
lane_kept lane lane' t t' is same e = same ∙ (is ∙ ap (λ (u : ℕ × Page). lane_of (u.0 + 1, u.1)) (sym e))

-- and after one that does
pub lane_answered : (lane lane' : LaneView) (t t' : ℕ × Page) (given : Reply) → lane ≡ lane_of (t.0 + 1, t.1) → IsUnderWay t.1.state → lane' ≡ at_rest lane → t' ≡ (t.0, page Idle (t.1.told ++ as_told t.1.state given)) → lane' ≡ lane_of (t'.0 + 1, t'.1)
lane_answered lane lane' t t' given is busy rests e = rests ∙ (ap at_rest is ∙ (answers_lane (t.0 + 1) t.1 given busy ∙ ap (λ (u : ℕ × Page). lane_of (u.0 + 1, u.1)) (sym e)))

-- what a step does to the lane
pub lane_goes : (b : Before) (a : After) → TakesStep b Moved a → a.lane ≡ b.lane
lane_goes b a (inl x) = x.1.lane
lane_goes b a (inr (inl x)) = x.3.lane
lane_goes b a (inr (inr x)) = x.1.lane

pub steps_as : (v v' w w' : CoreView) (l l' m m' : LaneView) (s s' : Step) → v ≡ v' → l ≡ l' → s ≡ s' → w ≡ w' → m ≡ m' → StepsOn v l s w m → StepsOn v' l' s' w' m'
steps_as v v' w w' l l' m m' s s' ev el es ew em steps =
    subst (λ x. StepsOn x l' s' w' m') ev (subst (λ x. StepsOn v x s' w' m') el (subst (λ x. StepsOn v l x w' m') es (subst (λ x. StepsOn v l s x m') ew (subst (λ x. StepsOn v l s w x) em steps))))

pub adds_as : (v v' : CoreView) (l l' : LaneView) (s s' : Step) (w w' : CoreView) (m m' : LaneView) (h added : List Record) → v ≡ v' → l ≡ l' → s ≡ s' → w ≡ w' → m ≡ m' → AddsBy v l s w m h added → AddsBy v' l' s' w' m' h added
adds_as v v' l l' s s' w w' m m' h added ev el es ew em adds =
    subst (λ x. AddsBy x l' s' w' m' h added) ev (subst (λ x. AddsBy v x s' w' m' h added) el (subst (λ x. AddsBy v l x w' m' h added) es (subst (λ x. AddsBy v l s x m' h added) ew (subst (λ x. AddsBy v l s w x h added) em adds))))
